-- What callers see of a book.
use Rattle.std.specs.Prelude.{ℕ, ◌≤◌}
use Rattle.ptu_units.specs.Limits.{greatest_capacity}

-- a capacity that may be in force: within its limits, or none
abbrev pub IsInForce : ℕ → Type 0
IsInForce capacity = capacity ≤ greatest_capacity

-- the capacity in force, the greatest moment of a decision, and the total: the rates of all rows of the four tables
pub record KeptBook : Type 0 where
  pub capacity : ℕ
  pub moment : ℕ
  pub total : ℕ
