-- Counts of faults. A count of 64 bits stands still at its end, 2 ^ 64 - 1.
use Rattle.std.specs.Prelude.{ℕ, ◌≡◌, ◌+◌, ◌-◌, ◌^◌, ◌≤◌, ◌⊎◌}
use Rattle.ptu_units.specs.Counts.{counted}

-- the count has risen by n; one that stands at its end is taken as risen by as much as is asked
abbrev pub HasRisenBy : ℕ → ℕ → ℕ → Type 0
HasRisenBy n old new = (old + n ≤ new) ⊎ (2 ^ 64 - 1 ≤ new)

-- the count has risen by just n, or to its end
abbrev pub HasRisenJust : ℕ → ℕ → ℕ → Type 0
HasRisenJust n old new = (new ≡ old + n) ⊎ (2 ^ 64 - 1 ≤ new)

-- the count has risen
abbrev pub HasRisen : ℕ → ℕ → Type 0
HasRisen old new = HasRisenBy 1 old new

-- a count after one more
abbrev pub one_more : ℕ → ℕ
one_more count = counted (count + 1)

-- the count has not fallen, and one that stands at its end stands still
abbrev pub HasNotFallen : ℕ → ℕ → Type 0
HasNotFallen old new = (old ≤ new) × (2 ^ 64 - 1 ≤ old → new ≡ old)
