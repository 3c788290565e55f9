use Rattle.std.proofs.Common.{sym}
use Rattle.ptu_lines.proofs.Addresses.{byte_long}
use Rattle.ptu_lines.proofs.forms.byte.Goals as goal

pub returns-in_default-2-clause-value : goal.returns-in_default-2-clause-value
returns-in_default-2-clause-value c = sym (byte_long c.args.word.now c.in_default.len_at_least)
