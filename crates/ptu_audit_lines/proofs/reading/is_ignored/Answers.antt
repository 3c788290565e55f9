use Rattle.std.proofs.Common.{sym, arith}
use Rattle.ptu_audit_lines.proofs.Fields.{none_ignored}
use Rattle.ptu_audit_lines.proofs.reading.is_ignored.Goals as goal

pub returns-then-not-is_named : goal.returns-then-not-is_named
returns-then-not-is_named c = sym (none_ignored c.args.line.now (grind arith))
