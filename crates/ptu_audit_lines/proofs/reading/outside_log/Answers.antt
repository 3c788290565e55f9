use Rattle.std.proofs.Common.{Some, ap, rules, sym}
use Rattle.std.specs.{Int.{w8}, Int.RustNames.{FitsSigned}}
use Rattle.std.proofs.lemmas.Int.{to_z-of_z}
use Rattle.ptu_audit_lines.specs.declared.entry.Decision.TheVariants as decisions
use Rattle.ptu_audit_lines.proofs.Fields.{outside_log_fits, readers}
use Rattle.ptu_audit_lines.proofs.reading.outside_log.Goals as goal

pub returns-in_err-literal : goal.returns-in_err-literal
unfolding readers
returns-in_err-literal c = rw (outside_log_fits c.args.line.now c.requires, sym c.in_err-literal.ensures) (search rules)

pub returns : goal.returns
unfolding readers
returns c =
    let fits : FitsSigned w8 c.in_ok-log.log = search rules in
    rw (outside_log_fits c.args.line.now c.requires, sym c.in_ok-literal.ensures, sym c.in_ok-literal-2.ensures, sym c.in_ok-kind.ensures, sym c.in_ok-log.ensures.value, c.in_ok-log.ensures.octet, sym c.in_ok-no_word.ensures) (ap (λ z. Some (decisions.OutsideLog c.in_ok-kind.kind z)) (to_z-of_z w8 c.in_ok-log.log fits))
