use Rattle.std.proofs.Common.{◌≡◌}
use Rattle.ptu_lanes.specs.Stretches.{HasTurned}
use Rattle.ptu_lanes.proofs.service.Service.take_part_turning.Given as goal

abbrev pub invariant-loop-i : goal.invariant-loop-i
invariant-loop-i g l = record {
  done : l.lane.done ≡ l.i;
  turned : HasTurned g.C.Clock l.i l.fn.lane.clock l.lane.clock l.fn.lane.turner l.lane.turner;
}
