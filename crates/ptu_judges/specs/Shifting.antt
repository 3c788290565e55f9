-- A mark that moves up.
use Rattle.std.specs.Prelude.{ℕ, ◌-◌, Bool, true, not, ◌||◌, ◌&&◌, List, slice_index_or, ◌==◌, nat_lt}

-- the mark of a place once each mark has moved up by d places; a place that opens is clear, but for
-- the first
abbrev pub shifted : ℕ → List Bool → ℕ → Bool
shifted d marks i = (i == 0) || (not (nat_lt i d) && slice_index_or marks (i - d) true)
