use Rattle.std.proofs.Common.{refl}
use Rattle.hex.specs.Hex.{decode_pairs}
use Rattle.ptu_audit_lines.specs.Words.{field, any_number, is_channel, hex_of}
use Rattle.ptu_audit_lines.specs.Forms.{fits, fitting, is_in_place}
use Rattle.ptu_audit_lines.specs.Entry.{entry_of, line_of, numbered_in, send_in}
use Rattle.ptu_audit_lines.proofs.examples.changes_and_datagrams.Goals as goal

pub returns-clause-sent : goal.returns-clause-sent
unfolding decode_pairs field any_number is_channel hex_of fits fitting is_in_place entry_of line_of numbered_in send_in
returns-clause-sent c = refl
