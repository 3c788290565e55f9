use Rattle.std.proofs.Common.{◌≡◌, ◌*◌, ◌≤◌, take}
use Rattle.ptu_units.specs.Limits.{greatest_capacity}
use Rattle.ptu_pool_run.specs.Refusal.{capacities}
use Rattle.ptu_pool_run.proofs.judging.total.Given as goal

abbrev pub invariant-loop-pool : goal.invariant-loop-pool
invariant-loop-pool l = (l.sum ≡ capacities (take l.pool-index l.pools)) × (l.sum ≤ l.pool-index * greatest_capacity)
