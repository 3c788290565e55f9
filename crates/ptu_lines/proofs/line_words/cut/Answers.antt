use Rattle.std.proofs.Common.{rules, ◌==◌, ◌≡◌, ◌+◌, ◌-◌, ℕ, suc, Bool, length, take, drop, sym, arith}
use Rattle.std.proofs.lemmas.List.{take_all, length-drop}
use Rattle.ptu_lines.proofs.Separators.{cut_placed, none_placed, split-cut, split-none}
use Rattle.ptu_lines.proofs.line_words.cut.Goals as goal

pub returns-clause-parts : goal.returns-clause-parts
returns-clause-parts c =
    let test : ℕ → Bool = λ octet. octet == c.args.separator in
    let text = c.args.text.now in
    let end = c.in_ok-end.end in
    let behind = drop (end + 1) text in
    let whole : take (length text - (end + 1)) behind ≡ behind =
    take_all (length text - (end + 1)) behind (omega (arith, length-drop (end + 1) text)) in
    let place : end + 1 ≡ suc end = omega arith in
    rw (whole, place) (split-cut test text end (cut_placed test text end (sym c.in_ok-end.ensures)))

pub returns-in_err-end-clause-none : goal.returns-in_err-end-clause-none
returns-in_err-end-clause-none c =
    let test : ℕ → Bool = λ octet. octet == c.args.separator in
    let whole = split-none test c.args.text.now (none_placed test c.args.text.now (sym c.in_err-end.ensures)) in
    search rules
