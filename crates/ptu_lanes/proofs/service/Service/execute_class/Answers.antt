use Rattle.std.proofs.Common.{refl}
use Rattle.ptu_lanes.proofs.{Beginning.{executed_class}, Moments.{passed_one}}
use Rattle.ptu_lanes.proofs.service.Service.execute_class.Goals as goal

pub returns : goal.returns
returns g c =
    executed_class g.P.Port g.C.Clock c.args.self.now.base.now.config.now c.args.class c.args.lane.now _ _ c.requires.sequence refl (passed_one _ _ c.now.ensures.rest) refl
