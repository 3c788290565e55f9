use Rattle.std.proofs.Common.{sym, arith}
use Rattle.ptu_audit_lines.proofs.Fields.{none_answer}
use Rattle.ptu_audit_lines.proofs.reading.is_answer.Goals as goal

pub returns-then-not-is_named-2 : goal.returns-then-not-is_named-2
returns-then-not-is_named-2 c = sym (none_answer c.args.line.now (grind arith) (grind arith))
