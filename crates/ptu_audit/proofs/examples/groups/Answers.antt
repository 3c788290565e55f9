use Rattle.std.proofs.Common.{refl}
use Rattle.std.specs.Fmt.{digits}
use Rattle.hex.specs.Hex.{decode_pairs}
use Rattle.ptu_messages.specs.HeaderReading.{header_in}
use Rattle.ptu_messages.specs.TlvsReading.{tlv_in}
use Rattle.ptu_messages.specs.Reading.{body_in, message_in, tlvs_in}
use Rattle.ptu_history.specs.{History.{capacity_in_force, lease_records}, Lawful.{earliest, last_period}}
use Rattle.ptu_history.specs.Live.{last_decision, live, live_grants, standing}
use Rattle.ptu_history.specs.{Moments.{book_moment}, Verdict.{others, own_rate}}
use Rattle.ptu_history.specs.Runs.{chain, root, sent_in_chain}
use Rattle.ptu_trail.specs.Faults.{client_at, is_shared, last_decided, last_sent_to}
use Rattle.ptu_audit_lines.specs.Forms.{fits, fitting, is_in_place}
use Rattle.ptu_audit_lines.specs.Words.{any_number, field, hex_of, identity_in_word, is_channel, kind_named, log_of_kind, log_outside, lower_clock, octet_log}
use Rattle.ptu_audit_lines.specs.Entry.{cancelled_in, capacity_in, decided_in, decision_in, end_in, entry_of, granted_in, line_of, nothing_code_in, nothing_in, numbered_in, other_in, outside_duration_in, outside_log_in, outside_type_in, plain_entry_in, send_in, shed_in, short_in}
use Rattle.ptu_audit.specs.{Groups.{acts_of, groups_of}, Reading.{audit_rules, last_script}, Trails.{trail_of}}
use Rattle.ptu_audit.proofs.examples.groups.Goals as goal

pub returns : goal.returns
unfolding digits decode_pairs header_in tlv_in body_in message_in tlvs_in capacity_in_force lease_records earliest last_period last_decision live live_grants standing book_moment others own_rate chain root sent_in_chain client_at is_shared last_decided last_sent_to fits fitting is_in_place any_number field hex_of identity_in_word is_channel kind_named log_of_kind log_outside lower_clock octet_log cancelled_in capacity_in decided_in decision_in end_in entry_of granted_in line_of nothing_code_in nothing_in numbered_in other_in outside_duration_in outside_log_in outside_type_in plain_entry_in send_in shed_in short_in acts_of groups_of audit_rules last_script trail_of
returns c = record { full = refl; more = refl }
