use Rattle.std.proofs.Common.{refl}
use Rattle.ptu_lanes.proofs.Beginning.{executed_cancel}
use Rattle.ptu_lanes.proofs.service.Service.execute_cancel.Goals as goal

pub returns : goal.returns
returns g c =
    let e = c.in_ok-change_capacity.ensures in
    executed_cancel g.P.Port g.C.Clock c.args.self.now.base.now.config.now _ c.args.lane.now c.change_capacity.new.lane _ e.sends refl e.moment e.seat e.in_force e.rest
