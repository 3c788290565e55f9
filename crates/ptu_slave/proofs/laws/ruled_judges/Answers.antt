use Rattle.ptu_slave.proofs.Ruled.{ruled_step}
use Rattle.ptu_slave.proofs.laws.ruled_judges.Goals as goal

pub returns : goal.returns
returns c = ruled_step
