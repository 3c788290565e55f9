use Rattle.std.proofs.Common.{◌∙◌, Some, ap, sym}
use Rattle.ptu_audit.specs.Reading.{audit_rules}
use Rattle.ptu_audit.proofs.auditor.ReportReaderReporter.take.Goals as goal

pub returns-in-Some-End : goal.returns-in-Some-End
unfolding audit_rules
returns-in-Some-End c = λ r s.
    rw (sym c.read_line.ensures ∙ c.in-Some-End.is ∙ ap Some c.in-Some-End.field-0-is, c.requires.empty)
    (c.take_end.ensures r c.args.number c.in-Some-End.field-0-0 c.in-Some-End.field-0-1 s)
