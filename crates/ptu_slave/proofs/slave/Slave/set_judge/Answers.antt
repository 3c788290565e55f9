use Rattle.std.proofs.Common.{refl}
use Rattle.ptu_slave.specs.Seen.{seen}
use Rattle.ptu_slave.proofs.Happening.{judged_by}
use Rattle.ptu_slave.proofs.slave.Slave.set_judge.Goals as goal

pub returns-clause-replaced : goal.returns-clause-replaced
unfolding seen
returns-clause-replaced g c = judged_by _ _ _ _ _ c.replace_judge.ensures.judge refl
