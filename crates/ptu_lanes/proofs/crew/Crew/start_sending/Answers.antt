use Rattle.std.proofs.Common.{refl, subst}
use Rattle.ptu_lanes.specs.declared.lanes.SendingLane.{SendingLane}
use Rattle.ptu_lanes.specs.{Crew.{CrewCameTo}, Stretches.{SendingLaneDid}}
use Rattle.ptu_lanes.proofs.Moments.{turned_idle}
use Rattle.ptu_lanes.proofs.crew.Crew.start_sending.Goals as goal

pub returns-then-not-may_turn_any : goal.returns-then-not-may_turn_any
returns-then-not-may_turn_any g c called is =
    rw is (turned_idle g.C.Clock c.args.lane.done c.args.lane.clock c.args.lane.turner (c.may_turn_any.ensures c.if-not-may_turn_any.true), refl)

pub returns : goal.returns
returns g c = λ called ends.
    subst (λ (lane : SendingLane _ _). CrewCameTo (λ (new : SendingLane _ _). SendingLaneDid g.C.Clock new.done lane new) lane called) c.of.ensures (c.start.ensures called ends)
