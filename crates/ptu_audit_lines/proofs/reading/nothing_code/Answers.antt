use Rattle.std.proofs.Common.{rules, sym, refl}
use Rattle.ptu_audit_lines.proofs.Fields.{nothing_code_fits, readers}
use Rattle.ptu_audit_lines.proofs.reading.nothing_code.Goals as goal

pub returns-in_err-literal : goal.returns-in_err-literal
unfolding readers
returns-in_err-literal c = rw (nothing_code_fits c.args.line.now c.requires, sym c.in_err-literal.ensures) (search rules)

pub returns : goal.returns
unfolding readers
returns c = rw (nothing_code_fits c.args.line.now c.requires, sym c.in_ok-literal.ensures, sym c.in_ok-code.ensures, sym c.in_ok-no_word.ensures) refl
