use Rattle.ptu_lanes.proofs.AllRounds.{GoesOnSoFar}
use Rattle.ptu_lanes.proofs.service.Service.take_signaling_all.Given as goal

abbrev pub invariant-loop-i : goal.invariant-loop-i
invariant-loop-i g l = GoesOnSoFar g.P.Port g.C.Clock g.L.Rates.most l.settings l.self.base.now.config.now l._i l.fn.lane l.lane
