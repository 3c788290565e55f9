use Rattle.std.proofs.Common.{[], ◌∷◌, ap, ◌∙◌, subst}
use Rattle.ptu_messages.specs.Sent.{octets_sent, sent_message, signaling}
use Rattle.ptu_outside.specs.declared.channel.Channel.TheVariants.{General}
use Rattle.ptu_outside.specs.HandsOver.{HandsOver, failed_in, sent_in}
use Rattle.ptu_slave_messages.proofs.sending.send_signaling.Goals as goal

pub returns : goal.returns
unfolding octets_sent
returns g c = record {
  sends = rw c.of.ensures
      (subst (λ bytes. HandsOver g.P.Port c.args.port.now c.hand.new.port
      (record { ip = c.args.ip; channel = General; bytes = bytes } ∷ []) (sent_in c.hand.result) (failed_in c.hand.result))
      (c.write_signaling-size.ensures.octets ∙ ap (λ h. sent_message (signaling h c.args.target.now c.args.tlvs.now)) c.header.ensures) c.hand.ensures);
}
