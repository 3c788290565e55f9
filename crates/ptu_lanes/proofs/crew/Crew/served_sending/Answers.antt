use Rattle.ptu_lanes.specs.declared.lanes.SendingLane.{SendingLane}
use Rattle.ptu_lanes.specs.Stretches.{SendingLaneDid}
use Rattle.ptu_lanes.proofs.Outcomes.{came_served}
use Rattle.ptu_lanes.proofs.crew.Crew.served_sending.Goals as goal

pub returns : goal.returns
returns g c old at = record {
  first = came_served (λ (new : SendingLane _ _). SendingLaneDid g.C.Clock new.done old.first new) old.first c.called.result c.in_ok-served.field-0
      (at.first c.called.result c.called.ensures) c.in_ok-served.ensures;
  second = came_served (λ (new : SendingLane _ _). SendingLaneDid g.C.Clock new.done old.second new) old.second c.called-2.result c.in_ok-served-2.field-0
      (at.second c.called-2.result c.called-2.ensures) c.in_ok-served-2.ensures;
  third = came_served (λ (new : SendingLane _ _). SendingLaneDid g.C.Clock new.done old.third new) old.third c.called-3.result c.in_ok-served-3.field-0
      (at.third c.called-3.result c.called-3.ensures) c.in_ok-served-3.ensures;
  fourth = came_served (λ (new : SendingLane _ _). SendingLaneDid g.C.Clock new.done old.fourth new) old.fourth c.called-4.result c.in_ok-served-4.field-0
      (at.fourth c.called-4.result c.called-4.ensures) c.in_ok-served-4.ensures;
}
