use Rattle.ptu_laws.proofs.Capacity.{held-within}
use Rattle.ptu_laws.proofs.laws.total_within_capacity.Goals as goal

pub returns : goal.returns
returns _ = record { within = held-within }
