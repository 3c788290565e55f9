use Rattle.std.proofs.Common.{sym, arith}
use Rattle.ptu_audit_lines.proofs.Fields.{none_body}
use Rattle.ptu_audit_lines.proofs.reading.is_body.Goals as goal

pub returns-then-not-is_named : goal.returns-then-not-is_named
returns-then-not-is_named c = sym (none_body c.args.line.now (grind arith))
