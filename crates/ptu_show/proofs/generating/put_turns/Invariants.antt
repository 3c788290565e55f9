use Rattle.std.proofs.Common.{◌≡◌, ◌-◌}
use Rattle.ptu_outside.specs.Handing.{HasPut}
use Rattle.ptu_show.specs.Generated.{turn_lines}
use Rattle.ptu_show.proofs.generating.put_turns.Given as goal

abbrev pub invariant-loop-second : goal.invariant-loop-second
invariant-loop-second g l = record {
  put : HasPut g.K.Sink.written g.K.Sink.handed l.initial.sink l.sink (turn_lines (l.second - 1));
  still : g.K.Sink.faults l.sink ≡ g.K.Sink.faults l.initial.sink;
}
