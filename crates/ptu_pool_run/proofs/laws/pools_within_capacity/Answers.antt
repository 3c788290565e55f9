use Rattle.ptu_pool_run.proofs.Whole.{count_whole, held_own, held_whole}
use Rattle.ptu_pool_run.proofs.laws.pools_within_capacity.Goals as goal

pub returns : goal.returns
returns _ = record { own = held_own; whole = held_whole; messages = count_whole }
