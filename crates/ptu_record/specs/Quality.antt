-- The quality levels of Option I, best first, and the clockClass of each (G.8265.1; the numbers are those of this project's profile).
use Rattle.std.specs.Prelude.{ℕ, Bool, true, false, List, [], ◌∷◌, Option, Some, None, ◌==◌, find}
use Rattle.ptu_record.specs.declared.quality.Quality.{Quality}
use Rattle.ptu_record.specs.declared.quality.Quality.TheVariants.{Prc, SsuA, SsuB, Sec, Dnu}

-- the clockClass of a level
abbrev pub class_of : Quality → ℕ
class_of Prc = 84
class_of SsuA = 90
class_of SsuB = 96
class_of Sec = 104
class_of Dnu = 110

-- all levels, best first
abbrev pub levels : List Quality
levels = Prc ∷ SsuA ∷ SsuB ∷ Sec ∷ Dnu ∷ []

-- the level that has this clockClass; every other class is unmapped
abbrev pub level_of : ℕ → Option Quality
level_of class = find (λ level. class_of level == class) levels

-- a master may be selected at this level: QL-DNU ("do not use") and an unmapped class are never selected
abbrev pub is_usable : Option Quality → Bool
is_usable None = false
is_usable (Some Prc) = true
is_usable (Some SsuA) = true
is_usable (Some SsuB) = true
is_usable (Some Sec) = true
is_usable (Some Dnu) = false

-- the place of a level in their order, 0 for the best; an unmapped class comes last
abbrev pub rank_of : Option Quality → ℕ
rank_of (Some Prc) = 0
rank_of (Some SsuA) = 1
rank_of (Some SsuB) = 2
rank_of (Some Sec) = 3
rank_of (Some Dnu) = 4
rank_of None = 5
