-- The moments that a clock will answer.
use Rattle.std.specs.Prelude.{ℕ, List, [], ◌∷◌}

-- without the first, but for the last one, which comes again and again
abbrev pub after_first : List ℕ → List ℕ
after_first [] = []
after_first (first ∷ []) = first ∷ []
after_first (first ∷ second ∷ later) = second ∷ later
