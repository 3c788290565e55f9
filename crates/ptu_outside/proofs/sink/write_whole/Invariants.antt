use Rattle.std.proofs.Common.{◌≡◌, ◌-◌, length}
use Rattle.ptu_outside.proofs.Putting.{IsPutting}
use Rattle.ptu_outside.proofs.sink.write_whole.Given as goal

abbrev pub invariant-loop-at : goal.invariant-loop-at
invariant-loop-at g l = record {
  putting : IsPutting g.K.Sink.written g.K.Sink.handed l.text l.at l.initial.sink l.sink;
  still : g.K.Sink.faults l.sink ≡ g.K.Sink.faults l.initial.sink;
}

abbrev pub decreases-loop-at : goal.decreases-loop-at
decreases-loop-at g l = length l.text - l.at
