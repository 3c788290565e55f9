use Rattle.std.proofs.{Common.{map, arith}, lemmas.List.{length-map}}
use Rattle.ptu_messages.proofs.Frames.{written}
use Rattle.ptu_messages.proofs.signaling.write_signaling_of.Goals as goal

pub returns : goal.returns
returns g c =
    let done =
    written c.args.header.now c.args.target.now (map g.T.ToTlv.tlv c.args.members.now) c.args.out.now c.put_tlvs-size.new.out c.put.new.out c.put-2.new.out c.write_header.new.out c.octets.result c.put_tlvs-size.result
    c.requires.message_type (omega (arith, c.requires.few, length-map c.args.members.now g.T.ToTlv.tlv)) (omega (arith, c.told-out)) c.put_tlvs-size.ensures.size c.put_tlvs-size.ensures.octets c.put_tlvs-size.ensures.spelled c.write_header.ensures.octets
    c.write_header.ensures.again c.put.ensures c.octets.ensures.octets c.octets.ensures.widths c.put-2.ensures in
    record { size = done.size_is; octets = done.octets; rest = done.rest; again = done.again }
