use Rattle.ptu_shard.proofs.Standing.{stands_elsewhere}
use Rattle.ptu_shard.proofs.laws.records_elsewhere.Goals as goal

pub returns : goal.returns
returns _ = λ book j rows moment history r s others reached. stands_elsewhere book j moment history rows s r others reached
