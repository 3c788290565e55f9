use Rattle.ptu_slave_daemon.proofs.Judges.{one_there}
use Rattle.ptu_slave_daemon.proofs.opening.take_judge.Goals as goal

pub unwrap-requires : goal.unwrap-requires
unwrap-requires g c = one_there _ _ c.take.result c.take.ensures c.requires.some

pub returns : goal.returns
returns g c = rw c.unwrap.ensures at c.take.ensures
