use Rattle.std.proofs.Common.{◌≡◌, map}
use Rattle.std.specs.List.{range_with_len}
use Rattle.ptu_outside.specs.Handing.{HasPut}
use Rattle.ptu_show.specs.Generated.{turn_text}
use Rattle.ptu_show.proofs.generating.put_turns_at.Given as goal

abbrev pub invariant-loop-table : goal.invariant-loop-table
invariant-loop-table g l = record {
  put : HasPut g.K.Sink.written g.K.Sink.handed l.initial.sink l.sink (map (turn_text l.moment) (range_with_len 0 l.table));
  still : g.K.Sink.faults l.sink ≡ g.K.Sink.faults l.initial.sink;
}
