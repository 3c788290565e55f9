-- Why pools are refused: the first cause that applies (the project's own choice).
use Rattle.std.specs.Prelude.{◌≡◌, ℕ, ◌<◌, ◌≤◌, not, List, Option, Some, None, sum_by}
use Rattle.std.specs.List.{position}
use Rattle.ptu_pool_run.specs.declared.{pool.Pool.{Pool}, pools_fault.PoolsFault.{PoolsFault}}
use Rattle.ptu_pool_run.specs.declared.pools_fault.PoolsFault.TheVariants.{Net, Overlap as Overlapping, Over, OutOfMemory}
use Rattle.ptu_pool_run.specs.Pool.{AreApart, Overlap, is_network}

-- the place of the first pool that is no network
abbrev pub first_wrong : List Pool → Option ℕ
first_wrong pools = position (λ pool. not (is_network pool)) pools

-- of the pools that overlap: those with the least second, then the least first
pub record IsFirstOverlap (pools : List Pool) (first second : ℕ) : Type 0 where
  pub overlap : Overlap pools first second
  pub least_second : (i j : ℕ) → Overlap pools i j → second ≤ j
  pub least_first : (i : ℕ) → Overlap pools i second → first ≤ i

-- the sum of the capacities
abbrev pub capacities : List Pool → ℕ
capacities pools = sum_by (λ pool. pool.capacity) pools

-- pools that share this capacity: each is a network, no address is in two, and they sum to at most the whole
pub record Share (capacity : ℕ) (pools : List Pool) : Type 0 where
  pub networks : first_wrong pools ≡ None
  pub apart : AreApart pools
  pub within : capacities pools ≤ capacity

-- the first cause why pools do not share this capacity; for want of memory there is none
abbrev pub IsRefused : ℕ → List Pool → PoolsFault → Type 0
IsRefused capacity pools (Net at) = first_wrong pools ≡ Some at
IsRefused capacity pools (Overlapping first second) = (first_wrong pools ≡ None) × IsFirstOverlap pools first second
IsRefused capacity pools (Over sum) =
    (first_wrong pools ≡ None) × AreApart pools × (sum ≡ capacities pools) × (capacity < sum)
IsRefused capacity pools OutOfMemory = Share capacity pools
