use Rattle.std.proofs.Common.{arith, subst, sym}
use Rattle.ptu_lanes.specs.Stretches.{HasObeyed}
use Rattle.ptu_lanes.proofs.{Beginning.{obeyed_none}, Outcomes.{ok_of}}
use Rattle.ptu_lanes.proofs.service.Service.obey_any.Goals as goal

pub returns-in_default : goal.returns-in_default
returns-in_default g c = rw c.in_default.is (obeyed_none g.P.Port g.C.Clock c.args.self.now.base.now.config.now c.args.lane (omega arith))

pub returns-then-is_end : goal.returns-then-is_end
returns-then-is_end g c = rw c.in-Some.is c.obey-lane.ensures

pub returns : goal.returns
returns g c =
    subst (λ o. HasObeyed g.P.Port g.C.Clock c.args.self.now.base.now.config.now o c.args.lane c.in_ok-lane.lane) (sym c.in-Some.is)
    (ok_of c.obey-lane.result _ c.in_ok-lane.lane c.in_ok-lane.ensures c.obey-lane.ensures)
