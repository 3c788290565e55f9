use Rattle.std.proofs.Common.{◌≡◌, ◌++◌, length}
use Rattle.std.specs.Vec.Iter.{into_iter_items}
use Rattle.ptu_pool_run.specs.{Making.{AreFresh}, PoolsStanding.{ports_of_all}}
use Rattle.ptu_pool_run.proofs.making.grandmasters.Given as goal

abbrev pub invariant-loop-pool : goal.invariant-loop-pool
invariant-loop-pool g l =
    (ports_of_all l.gms.items ++ into_iter_items l.rest ≡ l.fn.ports.items)
    × (length l.gms.items ≡ l.pool-index)
    × AreFresh l.config l.pools l.gms.items
