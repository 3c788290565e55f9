-- What a clock in memory holds.
use Rattle.std.specs.Prelude.{ℕ, List, [], ◌∷◌}

-- the moment that it answers next, and those after it
pub record MemoryClock : Type 0 where
  pub next : ℕ
  pub later : List ℕ

-- the moments to come
abbrev pub moments_of : MemoryClock → List ℕ
moments_of clock = clock.next ∷ clock.later

-- a clock of these moments, and of 0 where there is none
abbrev pub clock_of : List ℕ → MemoryClock
clock_of [] = record { next = 0; later = [] }
clock_of (first ∷ later) = record { next = first; later = later }
