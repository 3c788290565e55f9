use Rattle.std.proofs.Common.{[], ◌∷◌, subst}
use Rattle.ptu_outside.specs.HandsOver.{HandsOver, failed_in, sent_in}
use Rattle.ptu_messages.specs.Sent.{octets_sent}
use Rattle.ptu_shard.proofs.messages.send_fixed.Goals as goal

pub returns : goal.returns
unfolding octets_sent
returns g c =
    subst (λ bytes. HandsOver g.P.Port c.args.port.now c.hand.new.port
    (record { ip = c.args.ip; channel = c.args.channel; bytes = bytes } ∷ []) (sent_in c.hand.result) (failed_in c.hand.result))
    c.write_fixed-size.ensures.octets c.hand.ensures
