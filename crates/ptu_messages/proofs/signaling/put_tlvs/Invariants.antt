use Rattle.std.proofs.Common.{map, take}
use Rattle.ptu_messages.proofs.Frames.{IsPut}
use Rattle.ptu_messages.proofs.signaling.put_tlvs.Given as goal

abbrev pub invariant-loop-member : goal.invariant-loop-member
invariant-loop-member g l = IsPut l.initial.out l.out l.size l.member-index (take l.member-index (map g.T.ToTlv.tlv l.members))
