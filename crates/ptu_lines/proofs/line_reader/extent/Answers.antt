use Rattle.std.proofs.Common.{sym, ◌∙◌, arith}
use Rattle.ptu_lines.proofs.Ranges.{take-least, length-least, take-least_of_front}
use Rattle.ptu_lines.proofs.Cutting.{ends_at, length-known_ended, text_of-known_ended, text_of-known_open}
use Rattle.ptu_lines.proofs.line_reader.extent.Goals as goal

pub overflow_add-result : goal.overflow_add-result
overflow_add-result c = let e = ends_at c.args.waiting.now c.in-Some.place (sym c.in-Some.is ∙ c.requires) in omega (arith, e.within)

pub returns-in-Some-clause-size : goal.returns-in-Some-clause-size
returns-in-Some-clause-size c =
    rw c.in-Some.is (sym (length-known_ended _ _ (ends_at c.args.waiting.now c.in-Some.place (sym c.in-Some.is ∙ c.requires))))

pub returns-in-Some-clause-text : goal.returns-in-Some-clause-text
returns-in-Some-clause-text c =
    rw c.in-Some.is (text_of-known_ended _ _ (ends_at c.args.waiting.now c.in-Some.place (sym c.in-Some.is ∙ c.requires)))

pub returns-in-Some-clause-within : goal.returns-in-Some-clause-within
returns-in-Some-clause-within c = let e = ends_at c.args.waiting.now c.in-Some.place (sym c.in-Some.is ∙ c.requires) in omega (arith, e.within)

pub returns-in-None-clause-known : goal.returns-in-None-clause-known
returns-in-None-clause-known c = rw (c.in-None.is, c.min-size.ensures) (take-least 8193 c.args.waiting.now)

pub returns-in-None-clause-size : goal.returns-in-None-clause-size
returns-in-None-clause-size c = rw (c.in-None.is, c.min-size.ensures) (length-least 8193 c.args.waiting.now)

pub returns-in-None-clause-text : goal.returns-in-None-clause-text
returns-in-None-clause-text c =
    rw (c.in-None.is, c.min-size.ensures) (take-least_of_front 8193 c.args.waiting.now ∙ sym (text_of-known_open c.args.waiting.now (sym c.in-None.is ∙ c.requires)))
