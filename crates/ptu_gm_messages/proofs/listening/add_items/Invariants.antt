use Rattle.std.proofs.Common.{◌≡◌, ◌++◌, take}
use Rattle.ptu_gm_messages.specs.Items.{items_among}
use Rattle.ptu_gm_messages.proofs.listening.add_items.Given as goal

abbrev pub invariant-loop-tlv : goal.invariant-loop-tlv
invariant-loop-tlv l = l.items.items ≡ l.initial.items.items ++ items_among (take l.tlv-index l.tlvs)
