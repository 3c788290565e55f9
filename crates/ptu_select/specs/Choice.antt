-- A choice that is kept, and the moments for which it stands.
use Rattle.std.specs.Prelude.{◌≡◌, ℕ, ◌<◌, ◌≤◌, List, option_map}
use Rattle.ptu_select.specs.{Candidate.{best_of}, declared.choice.Choice.{Choice}}
use Rattle.ptu_select.specs.declared.master.WatchedMaster.{WatchedMaster}

-- at every moment from its first on and before its second, the best of these masters is at its place
abbrev pub Stands : List WatchedMaster → Choice → Type 0
Stands masters kept = (t : ℕ) → kept.from ≤ t → t < kept.until → option_map (λ best. best.place) (best_of t masters) ≡ kept.place
