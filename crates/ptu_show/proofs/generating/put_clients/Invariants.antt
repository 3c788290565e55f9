use Rattle.std.proofs.Common.{◌≡◌, ◌<◌, ◌^◌}
use Rattle.ptu_outside.specs.Handing.{HasPut}
use Rattle.ptu_show.specs.Generated.{ask_lines, x_at}
use Rattle.ptu_show.proofs.generating.put_clients.Given as goal

abbrev pub invariant-loop-number : goal.invariant-loop-number
invariant-loop-number g l = record {
  x_is : l.x ≡ x_at l.number;
  small : l.x < 2 ^ 31;
  put : HasPut g.K.Sink.written g.K.Sink.handed l.initial.sink l.sink (ask_lines l.number);
  still : g.K.Sink.faults l.sink ≡ g.K.Sink.faults l.initial.sink;
}
