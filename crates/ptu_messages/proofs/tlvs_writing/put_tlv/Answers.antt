use Rattle.std.proofs.Common.{◌≡◌, rules, take}
use Rattle.ptu_messages.specs.{Tlv.{HasWidths}, TlvsSent.{sent_tlv}}
use Rattle.ptu_messages.proofs.TlvsSending.{sent_is_read}
use Rattle.ptu_messages.proofs.tlvs_writing.put_tlv.Goals as goal

pub returns-in-Request-clause-again : goal.returns-in-Request-clause-again
returns-in-Request-clause-again c = λ sendable.
    let octets : take c.put.result c.put.new.out ≡ sent_tlv c.args.tlv.now = search rules in
    let wide : HasWidths c.args.tlv.now = rw c.in-Request.is c.ask.ensures.widths in
    rw octets (sent_is_read c.args.tlv.now wide sendable)

pub returns-in-Grant-clause-again : goal.returns-in-Grant-clause-again
returns-in-Grant-clause-again c = λ sendable.
    let octets : take c.put-in-Grant.result c.put-in-Grant.new.out ≡ sent_tlv c.args.tlv.now = search rules in
    let wide : HasWidths c.args.tlv.now = rw c.in-Grant.is c.ask-in-Grant.ensures.widths in
    rw octets (sent_is_read c.args.tlv.now wide sendable)
