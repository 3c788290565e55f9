use Rattle.std.proofs.Common.{refl}
use Rattle.ptu_lanes.proofs.Beginning.{executed_stop}
use Rattle.ptu_lanes.proofs.service.Service.execute_stop.Goals as goal

pub returns : goal.returns
returns g c = executed_stop g.P.Port g.C.Clock c.args.self.now.base.now.config.now c.args.lane.now _ c.requires refl
