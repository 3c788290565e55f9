use Rattle.std.proofs.Common.{rules, sym, refl}
use Rattle.ptu_audit_lines.proofs.Fields.{outside_duration_fits, readers}
use Rattle.ptu_audit_lines.proofs.reading.outside_duration.Goals as goal

pub returns-in_err-literal : goal.returns-in_err-literal
unfolding readers
returns-in_err-literal c = rw (outside_duration_fits c.args.line.now c.requires, sym c.in_err-literal.ensures) (search rules)

pub returns : goal.returns
unfolding readers
returns c = rw (outside_duration_fits c.args.line.now c.requires, sym c.in_ok-literal.ensures, sym c.in_ok-literal-2.ensures, sym c.in_ok-kind.ensures, sym c.in_ok-log.ensures.value, c.in_ok-log.ensures.octet, sym c.in_ok-seconds.ensures, sym c.in_ok-no_word.ensures) refl
