-- Sixteen marks that move up, as a judge of gaps may keep them in place of all positions. A law says that they show the clear places.
use Rattle.std.specs.Prelude.{ℕ, ◌+◌, ◌-◌, ◌%◌, Bool, true, cond, ◌||◌, ◌&&◌, List, [], ◌∷◌, map, replicate, slice_index_or, slice_set, count_by, not, Option, Some, None, ◌==◌, nat_lt, nat_le}
use Rattle.ptu_record.specs.{Lists.{maximum, places}, Judges.{is_clear}}

-- the number at the greatest position, once there is one, and for each place from 0 to 15 whether it is set
pub record Marks : Type 0 where
  pub top : Option ℕ
  pub set : List Bool

-- before any Sync: all places are set
abbrev pub fresh_marks : Marks
fresh_marks = record { top = None; set = replicate 16 true }

-- each mark so many places further up; those that open are clear, but for the first
abbrev pub marks_up : ℕ → List Bool → List Bool
marks_up d marks = map (λ i. (i == 0) || (not (nat_lt i d) && slice_index_or marks (i - d) true)) (places 16)

-- the marks that a number so far ahead of the top leaves
abbrev pub marks_at : Marks → ℕ → ℕ → Marks
marks_at marks d number =
    cond (d == 0) marks
    (cond (nat_le d 32767) (record { top = Some number; set = marks_up d marks.set })
    (cond (nat_le (65536 - d) 15) (record { top = marks.top; set = slice_set marks.set (65536 - d) true })
    (record { top = Some number; set = replicate 16 true })))

-- the marks once a Sync of this number is heard
abbrev pub marks_after : Marks → ℕ → Marks
marks_after marks number = elim marks.top as (λ _. Marks) [ None ↦ record { top = Some number; set = marks.set } | Some top ↦ marks_at marks ((number + 65536 - top) % 65536) number ]

-- how many places are clear
abbrev pub clear_count : Marks → ℕ
clear_count marks = count_by (λ mark. not mark) marks.set

-- the marks that show which places the positions leave clear, and the number at the greatest one
abbrev pub marks_of : List ℕ → Marks
marks_of [] = fresh_marks
marks_of (p ∷ ps) = record { top = Some (maximum (p ∷ ps) % 65536); set = map (λ i. not (is_clear (p ∷ ps) i)) (places 16) }
