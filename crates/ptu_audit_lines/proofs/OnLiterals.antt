-- What an answer unfolds to compute the readers of words and of lines on a literal.
use Rattle.std.specs.Prelude.{⊤}
use Rattle.ptu_audit_lines.specs.Words.{any_number, channel_of, field, hex_of, identity_in_word, is_channel, is_text, kind_named, log_of_kind, log_outside, lower_clock, no_word, octet_log}
use Rattle.ptu_audit_lines.specs.Forms.{fits, fitting, is_in_place}
use Rattle.ptu_audit_lines.specs.Entry.{cancelled_in, capacity_in, decided_in, decision_in, end_in, entry_of, granted_in, line_of, nothing_code_in, nothing_in, numbered_in, other_in, outside_duration_in, outside_log_in, outside_type_in, plain_entry_in, send_in, shed_in, short_in}

unfoldable pub words_on_literals : ⊤
unfolding field is_text no_word any_number kind_named is_channel channel_of octet_log log_of_kind log_outside hex_of lower_clock identity_in_word
words_on_literals = tt

unfoldable pub lines_on_literals : ⊤
unfolding words_on_literals is_in_place fits fitting granted_in short_in outside_type_in outside_log_in outside_duration_in cancelled_in nothing_in nothing_code_in decision_in decided_in capacity_in shed_in send_in other_in plain_entry_in entry_of numbered_in end_in line_of
lines_on_literals = tt
