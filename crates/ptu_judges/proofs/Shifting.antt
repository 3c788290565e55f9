-- Marks that move up.
use Rattle.std.proofs.Common.{◌≡◌, ℕ, ◌<◌, Bool, true, List, length, get_or}
use Rattle.std.proofs.lemmas.List.FromFn.{fill_by_all}
use Rattle.ptu_record.specs.Marks.{marks_up}
use Rattle.ptu_judges.specs.Shifting.{shifted}

-- marks of which each has moved up are the marks moved up
pub marks_up_is : (d : ℕ) (marks moved : List Bool) → length moved ≡ 16 → ((k : ℕ) → k < 16 → get_or moved k true ≡ shifted d marks k) → moved ≡ marks_up d marks
marks_up_is d marks moved size each = fill_by_all (shifted d marks) moved 16 true size each
