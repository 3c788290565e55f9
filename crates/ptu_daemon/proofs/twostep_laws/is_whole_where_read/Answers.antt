use Rattle.std.proofs.Common.{None, refl}
use Rattle.ptu_daemon.specs.Pairs.{step_at}
use Rattle.ptu_daemon.proofs.Pairs.{spelled-unpair, unpair-pair}
use Rattle.ptu_daemon.proofs.twostep_laws.is_whole_where_read.Goals as goal

pub returns-clause-spelled : goal.returns-clause-spelled
returns-clause-spelled c = spelled-unpair None

pub returns-clause-one_more : goal.returns-clause-one_more
returns-clause-one_more c = λ sent d whole. unpair-pair None sent d (step_at d) refl whole
