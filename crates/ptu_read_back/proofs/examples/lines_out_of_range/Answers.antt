use Rattle.std.proofs.Common.{refl}
use Rattle.std.specs.Fmt.{digits}
use Rattle.hex.specs.Hex.{decode_pairs, encode_with}
use Rattle.ptu_audit_lines.specs.Words.{any_number, field, hex_of, identity_in_word, is_channel, kind_named, log_of_kind, log_outside, lower_clock, octet_log}
use Rattle.ptu_audit_lines.specs.Forms.{fits, fitting, is_in_place}
use Rattle.ptu_audit_lines.specs.Entry.{cancelled_in, capacity_in, decided_in, decision_in, end_in, entry_of, granted_in, line_of, nothing_code_in, nothing_in, numbered_in, other_in, outside_duration_in, outside_log_in, outside_type_in, plain_entry_in, send_in, shed_in, short_in}
use Rattle.ptu_read_back.proofs.examples.lines_out_of_range.Goals as goal

pub returns : goal.returns
unfolding digits decode_pairs encode_with any_number field hex_of identity_in_word is_channel kind_named log_of_kind log_outside lower_clock octet_log fits fitting is_in_place cancelled_in capacity_in decided_in decision_in end_in entry_of granted_in line_of nothing_code_in nothing_in numbered_in other_in outside_duration_in outside_log_in outside_type_in plain_entry_in send_in shed_in short_in
returns c = record {
  number = (refl, refl);
  address = (refl, refl);
  no_octets = (refl, refl);
  port = (refl, refl);
  log = (refl, refl);
  log_within = (refl, refl);
  memory = (refl, refl);
  end = (refl, refl);
}
