use Rattle.std.proofs.Common.{◌≡◌}
use Rattle.ptu_lanes.specs.Stretches.{TookDelayReqs}
use Rattle.ptu_lanes.proofs.service.Service.take_part_delay_reqs.Given as goal

abbrev pub invariant-loop-i : goal.invariant-loop-i
invariant-loop-i g l = record {
  done : l.lane.done ≡ l.i;
  took : TookDelayReqs g.P.Port g.C.Clock l.i l.fn.lane.port l.lane.port l.fn.lane.clock l.lane.clock l.fn.lane.failed l.lane.failed;
}
