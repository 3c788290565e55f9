use Rattle.ptu_gm_messages.proofs.Gathering.{gathered_none, gathered_more, gathered_all}
use Rattle.ptu_gm_messages.proofs.listening.add_items.Goals as goal

pub loop-tlv-init : goal.loop-tlv-init
loop-tlv-init c = gathered_none c.args.items.now.items c.args.tlvs.now

pub loop-tlv-preserved : goal.loop-tlv-preserved
loop-tlv-preserved c =
    gathered_more c.args.items.now.items c.loop-tlv.items.items c.add_item.new.items.items c.args.tlvs.now c.loop-tlv.tlv-index _ c.loop-tlv-test.true
    c.loop-tlv.invariant c.in_ok-add_item.ensures

pub returns : goal.returns
returns c = gathered_all c.args.items.now.items c.loop-tlv.items.items c.args.tlvs.now c.loop-tlv.tlv-index c.loop-tlv-test.false c.loop-tlv.invariant
