use Rattle.std.proofs.{Common.{◌≤◌, length, map, take, ap, ◌∙◌, arith}, lemmas.List.{length-take}}
use Rattle.ptu_messages.proofs.Frames.{IsPut-none, IsPut-value, IsPut-length, IsPut-all, value_sendable}
use Rattle.ptu_messages.proofs.signaling.put_tlvs.Goals as goal

pub write_tlv-count-requires : goal.write_tlv-count-requires
write_tlv-count-requires g c =
    value_sendable g.T.ToTlv.tlv c.args.members.now c.loop-member.member-index c.member-item.result c.to_tlv.result (c.to_tlv.ensures ∙ ap g.T.ToTlv.tlv c.member-item.is) c.loop-member-test.true c.requires.sendable

pub put-requires : goal.put-requires
put-requires g c =
    let p = c.loop-member.invariant in
    let octets = c.write_tlv-count.new.out in
    let few : length (take c.write_tlv-count.result octets) ≤ 12 = omega (arith, length-take c.write_tlv-count.result octets, c.write_tlv-count.array_long) in
    let most : c.loop-member.size ≤ 416 = omega (arith, p.within, c.requires.few, c.loop-member-test.true) in
    let same = IsPut-length c.args.out.now c.loop-member.out c.loop-member.size c.loop-member.member-index (take c.loop-member.member-index (map g.T.ToTlv.tlv c.args.members.now)) (omega (arith, c.told-out)) (omega (arith, c.told-out, most)) p in
    omega (arith, few, most, same, c.told-out)

pub loop-member-init : goal.loop-member-init
loop-member-init g c = IsPut-none c.args.out.now

pub loop-member-preserved : goal.loop-member-preserved
loop-member-preserved g c =
    let count = c.write_tlv-count.result in
    let octets = c.write_tlv-count.new.out in
    let few : length (take count octets) ≤ 12 = omega (arith, length-take count octets, c.write_tlv-count.array_long) in
    IsPut-value g.T.ToTlv.tlv c.args.out.now c.loop-member.out c.put.new.out c.loop-member.size c.loop-member.member-index count c.args.members.now c.member-item.result c.to_tlv.result (take count octets)
    (c.to_tlv.ensures ∙ ap g.T.ToTlv.tlv c.member-item.is)
    c.write_tlv-count.ensures.again (omega (arith, c.told-out)) c.loop-member-test.true c.loop-member.invariant c.write_tlv-count.ensures.size c.write_tlv-count.ensures.octets few c.put.ensures

pub returns : goal.returns
returns g c =
    let put = IsPut-all g.T.ToTlv.tlv c.args.out.now c.loop-member.out c.loop-member.size c.loop-member.member-index c.args.members.now c.loop-member-test.false c.loop-member.auto.member-index-end c.loop-member.invariant in
    record { size = put.size_is; within = put.within; octets = put.octets; spelled = put.spelled }
