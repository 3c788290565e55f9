use Rattle.std.proofs.Common.{[], ◌∷◌, ap, ◌∙◌, subst}
use Rattle.ptu_messages.specs.Sent.{octets_sent, sent_message}
use Rattle.ptu_outside.specs.declared.channel.Channel.TheVariants.{Event}
use Rattle.ptu_outside.specs.HandsOver.{HandsOver, failed_in, sent_in}
use Rattle.ptu_slave_messages.proofs.sending.send_delay_req.Goals as goal

pub returns-clause-sends : goal.returns-clause-sends
unfolding octets_sent
returns-clause-sends g c = λ m. rw (c.in-Some.is, c.of.ensures)
    (subst (λ bytes. HandsOver g.P.Port c.args.port.now c.hand.new.port
    (record { ip = c.args.ip; channel = Event; bytes = bytes } ∷ []) (sent_in c.hand.result) (failed_in c.hand.result))
    (c.write_fixed-size.ensures.octets ∙ ap sent_message c.delay_req.ensures.message) c.hand.ensures)
