use Rattle.std.proofs.Common.{rules, sym, refl}
use Rattle.ptu_audit_lines.proofs.Fields.{capacity_fits, readers}
use Rattle.ptu_audit_lines.proofs.reading.capacity.Goals as goal

pub returns-in_err-literal : goal.returns-in_err-literal
unfolding readers
returns-in_err-literal c = rw (capacity_fits c.args.line.now c.requires, sym c.in_err-literal.ensures) (search rules)

pub returns-in_err-literal-2 : goal.returns-in_err-literal-2
unfolding readers
returns-in_err-literal-2 c = rw (capacity_fits c.args.line.now c.requires, sym c.in_ok-literal.ensures, sym c.in_ok-grandmaster.ensures, sym c.in_ok-capacity.ensures, sym c.in_err-literal-2.ensures) (search rules)

pub returns : goal.returns
unfolding readers
returns c = rw (capacity_fits c.args.line.now c.requires, sym c.in_ok-literal.ensures, sym c.in_ok-grandmaster.ensures, sym c.in_ok-capacity.ensures, sym c.in_ok-literal-2.ensures, sym c.in_ok-at.ensures, sym c.in_ok-no_word.ensures) refl
