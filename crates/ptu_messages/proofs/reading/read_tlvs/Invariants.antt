use Rattle.std.proofs.Common.{◌≡◌, ◌-◌, ◌≤◌, vec_len}
use Rattle.std.specs.Prelude.{slice_range}
use Rattle.ptu_messages.specs.Reading.{tlvs_in}
use Rattle.ptu_messages.proofs.Tlvs.{with_front}
use Rattle.ptu_messages.proofs.reading.read_tlvs.Given as goal

abbrev pub invariant-loop-at : goal.invariant-loop-at
invariant-loop-at l =
    (44 ≤ l.at) × (l.at ≤ l.end) × (vec_len l.tlvs ≤ 32)
    × (with_front l.tlvs.items (tlvs_in (32 - vec_len l.tlvs) l.at (slice_range l.bytes l.at l.end)) ≡ tlvs_in 32 44 (slice_range l.bytes 44 l.end))

abbrev pub decreases-loop-at : goal.decreases-loop-at
decreases-loop-at l = l.end - l.at
