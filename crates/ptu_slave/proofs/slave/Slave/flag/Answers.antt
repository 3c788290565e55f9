use Rattle.std.proofs.Common.{refl}
use Rattle.ptu_slave.specs.Seen.{seen}
use Rattle.ptu_slave.proofs.Happening.{judged_by}
use Rattle.ptu_slave.proofs.slave.Slave.flag.Goals as goal

pub returns-clause-flagged : goal.returns-clause-flagged
unfolding seen
returns-clause-flagged g c = judged_by _ _ _ _ _ c.take_news.ensures.judge refl
