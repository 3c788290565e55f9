use Rattle.std.proofs.Common.{sym, arith}
use Rattle.ptu_audit_lines.proofs.Fields.{none_header}
use Rattle.ptu_audit_lines.proofs.reading.is_header.Goals as goal

pub returns-then-not-is_named : goal.returns-then-not-is_named
returns-then-not-is_named c = sym (none_header c.args.line.now (grind arith))
