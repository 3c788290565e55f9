use Rattle.std.proofs.Common.{sym, arith}
use Rattle.ptu_audit_lines.proofs.Fields.{none_heard}
use Rattle.ptu_audit_lines.proofs.reading.is_heard.Goals as goal

pub returns-then-not-is_named : goal.returns-then-not-is_named
returns-then-not-is_named c = sym (none_heard c.args.line.now (grind arith))
