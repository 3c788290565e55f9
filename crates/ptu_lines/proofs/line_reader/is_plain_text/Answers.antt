use Rattle.std.proofs.Common.{ℕ, List, ◌-◌, ◌*◌, ◌/◌, length, ap, sym, ◌∙◌, arith}
use Rattle.std.specs.List.{list_all}
use Rattle.ptu_lines.specs.Script.{is_plain}
use Rattle.ptu_lines.proofs.Plain.{all_by_overlap, not_all}
use Rattle.ptu_lines.proofs.line_reader.is_plain_text.Goals as goal

-- the last octets, and the whole parts before them, where those pass
pub returns-then-are_plain : goal.returns-then-are_plain
returns-then-are_plain c =
    let text : List ℕ = c.args.text.now in
    let front = sym c.are_plain-in-Some.ensures ∙ c.if-are_plain.true in
    c.are_plain-then-are_plain.ensures
    ∙ (ap (list_all is_plain) c.in-Some.ensures.cases.1.same
    ∙ sym (all_by_overlap is_plain (length text - 32) (length text / 32 * 32) text (omega arith) front))

pub returns-else-are_plain : goal.returns-else-are_plain
returns-else-are_plain c =
    let text : List ℕ = c.args.text.now in
    c.if-are_plain.false ∙ sym (not_all is_plain (length text / 32 * 32) text (sym c.are_plain-in-Some.ensures ∙ c.if-are_plain.false))
