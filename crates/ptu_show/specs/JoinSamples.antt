-- Halves that were made out by hand, and which of them join.
use Rattle.std.specs.Prelude.{◌≡◌, ℕ, [], ◌∷◌, codes, drop, slice_set, ℤ, pos, negsuc, Some, None}
use Rattle.ptu_messages.specs.declared.header.Header.{Header}
use Rattle.ptu_messages.specs.declared.message.Body.TheVariants as bodies
use Rattle.ptu_messages.specs.declared.message.Message.{Message}
use Rattle.ptu_messages.specs.Samples.{sample_client, delay_req, grandmaster}
use Rattle.ptu_report.specs.declared.ending.Ending.TheVariants.{Whole, Refused}
use Rattle.ptu_lines.specs.declared.cause.LineCause.TheVariants.{Field}
use Rattle.ptu_show.specs.declared.half.{Half.{Half}, Part.TheVariants.{Sync, FollowUp}}
use Rattle.ptu_show.specs.{Halves.{half_in, joined, key_of}, Joins.{partner, waiting, waiting_keys}}
use Rattle.ptu_show.specs.Joined.{joined_ending, joined_output, text_behind}

-- a header of this messageType with these flags and this correctionField, from the client
abbrev pub sample_header : ℕ → ℕ → ℤ → Header
sample_header message_type flags correction = record {
  message_type = message_type;
  domain = 4;
  flags = flags;
  correction = correction;
  source = sample_client;
  sequence = 7;
}

-- a Sync with twoStepFlag, sent at 1 s, and its Follow_Up, at 1 s and 300 ns
abbrev pub sync : Half
sync = record {
  part = Sync;
  header = sample_header 0 0x0600 (pos 768);
  stamp = record { seconds = 1; nanos = 0 };
}

abbrev pub follow_up : Half
follow_up = record {
  part = FollowUp;
  header = sample_header 8 0x0400 (negsuc 255);
  stamp = record { seconds = 1; nanos = 300 };
}

-- a half with another header, or with another correctionField
abbrev pub with_header : Half → Header → Half
with_header half header = record half { header = header }

abbrev pub with_correction : Half → ℤ → Half
with_correction half z = with_header half (record half.header { correction = z })

-- a Sync in one step at the time of the Follow_Up, with this correctionField
abbrev pub one_step_with : ℤ → Message
one_step_with z = record { header = sample_header 0 0x0400 z; body = bodies.Sync follow_up.stamp }

-- a Sync of another domain
abbrev pub elsewhere : Half
elsewhere = with_header sync (record sync.header { domain = 5 })

-- either may come first; of three the third waits, and of two Syncs the second joins
abbrev pub HalvesJoin : Type 0
HalvesJoin =
    (partner [] sync ≡ None)
    × (partner (sync ∷ []) follow_up ≡ Some sync)
    × (partner (follow_up ∷ []) sync ≡ Some follow_up)
    × (partner (sync ∷ []) sync ≡ None)
    × (partner (follow_up ∷ sync ∷ []) follow_up ≡ None)
    × (partner (follow_up ∷ sync ∷ []) sync ≡ None)
    × (partner (follow_up ∷ follow_up ∷ sync ∷ []) sync ≡ Some follow_up)
    × (partner (sync ∷ sync ∷ []) follow_up ≡ Some sync)

-- keys that differ in one part; a half of another key between two does nothing
abbrev pub KeysAreApart : Type 0
KeysAreApart =
    (partner (elsewhere ∷ []) follow_up ≡ None)
    × (partner (with_header sync (record sync.header { source = grandmaster }) ∷ []) follow_up
    ≡ None)
    × (partner (with_header sync (record sync.header { source = record sample_client { port = 2 } }) ∷ [])
    follow_up ≡ None)
    × (partner (with_header sync (record sync.header { sequence = 8 }) ∷ []) follow_up ≡ None)
    × (partner (elsewhere ∷ sync ∷ []) follow_up ≡ Some sync)
    × (partner (with_header follow_up (record follow_up.header { sequence = 8 }) ∷ sync ∷ [])
    follow_up ≡ Some sync)

-- of a key waits its last half, where it does not join; keys are counted once
abbrev pub HalvesWait : Type 0
HalvesWait =
    (waiting (sync ∷ []) (key_of follow_up) ≡ Some sync)
    × (waiting (follow_up ∷ sync ∷ []) (key_of sync) ≡ None)
    × (waiting (follow_up ∷ follow_up ∷ sync ∷ []) (key_of sync) ≡ Some follow_up)
    × (waiting_keys [] ≡ 0)
    × (waiting_keys (sync ∷ sync ∷ []) ≡ 1)
    × (waiting_keys (follow_up ∷ sync ∷ []) ≡ 0)
    × (waiting_keys (follow_up ∷ follow_up ∷ sync ∷ []) ≡ 1)
    × (waiting_keys (elsewhere ∷ sync ∷ []) ≡ 2)

-- the Sync's header without twoStepFlag, the sum of both corrections, and the time of the Follow_Up
abbrev pub HalvesAreJoined : Type 0
HalvesAreJoined =
    (joined sync follow_up ≡ Some (one_step_with (pos 512)))
    × (joined follow_up sync ≡ Some (one_step_with (pos 512)))
    × (joined (with_correction sync (pos 9223372036854775807)) (with_correction follow_up (pos 1))
    ≡ None)
    × (joined (with_correction sync (pos 9223372036854775806)) (with_correction follow_up (pos 1))
    ≡ Some (one_step_with (pos 9223372036854775807)))
    × (joined (with_correction sync (negsuc 9223372036854775807))
    (with_correction follow_up (negsuc 0))
    ≡ None)
    × (joined (with_correction sync (negsuc 9223372036854775806))
    (with_correction follow_up (negsuc 0))
    ≡ Some (one_step_with (negsuc 9223372036854775807)))

-- what datagrams spell: a Sync with twoStepFlag and a Follow_Up are halves; a Sync without it, a
-- Delay_Req and octets that spell nothing are none
abbrev pub HalvesAreSpelled : Type 0
HalvesAreSpelled =
    (half_in (slice_set (slice_set delay_req 0 0) 6 6) ≡ Some (record {
      part = Sync;
      header = record sync.header { correction = pos 0 };
      stamp = record { seconds = 0; nanos = 0 };
    }))
    × (half_in (slice_set delay_req 0 8) ≡ Some (record {
      part = FollowUp;
      header = record follow_up.header { correction = pos 0 };
      stamp = record { seconds = 0; nanos = 0 };
    }))
    × (half_in (slice_set delay_req 0 0) ≡ None)
    × (half_in (slice_set delay_req 6 6) ≡ None)
    × (half_in (drop 1 delay_req) ≡ None)

-- the words of each line, and whole outputs: lines that do nothing count, and the first that is
-- refused ends the output
abbrev pub InputsAreJoined : Type 0
InputsAreJoined =
    (text_behind [] (Some sync) ≡ codes "wait")
    × (text_behind (sync ∷ []) (Some follow_up)
    ≡ codes "pair 0012002c040004000000000000000200000000000a0000000000001100010007007f0000000000010000012c")
    × (text_behind (with_correction sync (pos 9223372036854775807) ∷ [])
    (Some (with_correction follow_up (pos 1)))
    ≡ codes "overflow")
    × (text_behind (sync ∷ []) None ≡ codes "pass")
    × (joined_output [] ≡ codes "end 0 0\n")
    × (joined_output (codes "# note\n\n-") ≡ codes "3 pass\nend 3 0\n")
    × (joined_output (codes "-\n0c 12\n") ≡ codes "1 pass\n2 bad field 1\n")
    × (joined_ending (codes "\n") ≡ Whole 1)
    × (joined_ending (codes "\n0c1") ≡ Refused 2 (Field 1))
