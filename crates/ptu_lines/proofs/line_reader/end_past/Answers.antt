use Rattle.std.proofs.Common.{◌≡◌, ℕ, ◌+◌, ◌≤◌, min, List, Option, Some, None, length, take, sym, ap, refl, ◌∙◌}
use Rattle.std.specs.{List.{position, slice_range}, Option.{option_map}}
use Rattle.std.proofs.lemmas.List.{length-take-le}
use Rattle.ptu_lines.specs.Script.{is_end}
use Rattle.ptu_lines.proofs.{Ranges.{take-range-split}, Cutting.{position-past}}
use Rattle.ptu_lines.proofs.line_reader.end_past.Goals as goal

-- the first 0A of the front, by what a search past the part that has none finds
searched_past : (waiting : List ℕ) (searched high : ℕ) (found : Option ℕ) → searched ≤ length waiting → searched ≤ 8193 → position is_end (take searched waiting) ≡ None
    → high ≡ min (length waiting) 8193 → found ≡ position is_end (slice_range waiting searched high)
    → position is_end (take 8193 waiting) ≡ option_map (λ n. searched + n) found
searched_past waiting searched high found order short none is e =
    ap (position is_end) (take-range-split waiting searched 8193 short order)
    ∙ (position-past (take searched waiting) (slice_range waiting searched (min (length waiting) 8193)) none
    ∙ rw (e, is, length-take-le searched waiting order) refl)

pub returns-in_err-place : goal.returns-in_err-place
returns-in_err-place c =
    c.from_residual.ensures ∙ sym (searched_past c.args.waiting.now c.args.searched c.min-high.result None c.requires.order c.requires.short c.requires.none c.min-high.ensures c.in_err-place.ensures)

pub returns : goal.returns
returns c =
    sym (searched_past c.args.waiting.now c.args.searched c.min-high.result (Some c.in_ok-place.place) c.requires.order c.requires.short c.requires.none c.min-high.ensures c.in_ok-place.ensures)
