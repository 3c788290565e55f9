-- A count that has not reached its end.
use Rattle.std.proofs.Common.{◌≡◌, ◌≤◌, ◌-◌, ◌^◌, ℕ, arith}
use Rattle.ptu_units.specs.Counts.{counted}

pub counted-whole : (n : ℕ) → n ≤ 2 ^ 64 - 1 → counted n ≡ n
counted-whole n few = omega (arith, few)
