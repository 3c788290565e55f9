-- The places of a list are below its length.
use Rattle.std.proofs.Common.{ℕ, zero, suc, ◌+◌, ◌<◌, ◌≤◌, arith}
use Rattle.std.specs.List.{AllByRecursion, range_with_len}
use Rattle.ptu_record.specs.Lists.{places}

places_within : (a n k : ℕ) → a + n ≤ k → AllByRecursion (λ m. m < k) (range_with_len a n)
places_within a zero k le = tt
places_within a (suc n) k le = (omega arith, places_within (a + 1) n k (omega arith))

pub all_places : (n : ℕ) → AllByRecursion (λ m. m < n) (places n)
all_places n = places_within 0 n n (omega arith)
