use Rattle.std.proofs.Common.{◌≡◌, ◌-◌, ◌+◌, ◌≤◌, ℕ, List, length, take, drop, sym, ◌∙◌, arith}
use Rattle.std.proofs.lemmas.List.{take_all, length-drop}
use Rattle.ptu_lines.proofs.Separators.{cut_behind, cut_position, cuts_at, none_behind_front, none_in, none_placed, none_position}
use Rattle.ptu_lines.proofs.WordCutting.{is_space}
use Rattle.ptu_lines.proofs.line_words.next_space.Goals as goal

pub returns-in_err-size : goal.returns-in_err-size
returns-in_err-size c =
    let text : List ℕ = c.args.text.now in
    let fits : 16 ≤ length text = c.in-Some.ensures.cases.enough in
    let near = rw c.in-Some.ensures.cases.same at c.in_default-place.ensures in
    let whole : take (length text - 16) (drop 16 text) ≡ drop 16 text = take_all (length text - 16) (drop 16 text) (omega (arith, length-drop 16 text)) in
    let none = rw whole at c.in_err-size.ensures in
    c.from_residual.ensures ∙ none_position is_space text (none_behind_front is_space text 16 fits (none_placed is_space (take 16 text) (sym near)) (none_in is_space (drop 16 text) none))

pub returns : goal.returns
returns c =
    let text : List ℕ = c.args.text.now in
    let fits : 16 ≤ length text = c.in-Some.ensures.cases.enough in
    let near = rw c.in-Some.ensures.cases.same at c.in_default-place.ensures in
    let whole : take (length text - 16) (drop 16 text) ≡ drop 16 text = take_all (length text - 16) (drop 16 text) (omega (arith, length-drop 16 text)) in
    let found = rw whole at c.in_ok-size.ensures in
    cut_position is_space text (16 + c.in_ok-size.size) (cut_behind is_space text 16 c.in_ok-size.size fits (none_placed is_space (take 16 text) (sym near)) (cuts_at is_space (drop 16 text) c.in_ok-size.size found))
