use Rattle.std.proofs.Common.{◌∙◌, ap}
use Rattle.ptu_config.specs.declared.answer.Reply.TheVariants.{Shed}
use Rattle.ptu_lanes.proofs.Beginning.{executed_capacity}
use Rattle.ptu_lanes.proofs.service.Service.execute_capacity.Goals as goal

pub returns : goal.returns
returns g c =
    let e = c.in_ok-shed.ensures in
    executed_capacity g.P.Port g.C.Clock c.args.self.now.base.now.config.now c.args.capacity _ c.args.lane.now _ _ e.sends (ap Shed (c.into.ensures ∙ e.sends.4))
    e.moment e.seat (e.in_force ∙ c.of.ensures) e.rest
