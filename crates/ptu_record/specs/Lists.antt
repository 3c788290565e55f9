-- Words on lists from the front, of which a slave's rules are made.
use Rattle.std.specs.Prelude.{ℕ, max, Bool, cond, List, [], ◌∷◌, drop, zip, Option, Some, None}
use Rattle.std.specs.List.{last_or, list_any, range_with_len}

-- the last member, if there is one
abbrev pub last : {A : Type 0} → List A → Option A
last xs = last_or None xs

-- the greatest, or 0 where there is none
abbrev pub maximum : List ℕ → ℕ
maximum [] = 0
maximum (x ∷ xs) = max x (maximum xs)

-- each member with the one behind it
abbrev pub neighbours : {A : Type 0} → List A → List (A × A)
neighbours xs = zip xs (drop 1 xs)

-- what stands behind the last member that passes the test, or all where none passes
abbrev pub since_last : {A : Type 0} → (A → Bool) → List A → List A
since_last test [] = []
since_last test (x ∷ xs) = cond (list_any test xs) (since_last test xs) (cond (test x) xs (x ∷ xs))

-- the places of a list of this length, from 0 on
abbrev pub places : ℕ → List ℕ
places n = range_with_len 0 n

-- the new value where there is one, else the old one
abbrev pub newest_of : {A : Type 0} → Option A → Option A → Option A
newest_of None old = old
newest_of (Some x) old = Some x

-- the greatest member, if there is one
abbrev pub latest_of : List ℕ → Option ℕ
latest_of [] = None
latest_of (x ∷ xs) = Some (maximum (x ∷ xs))

-- the later of two moments, as far as they exist
abbrev pub later_of : Option ℕ → Option ℕ → Option ℕ
later_of None b = b
later_of (Some a) None = Some a
later_of (Some a) (Some b) = Some (max a b)
