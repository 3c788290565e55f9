use Rattle.ptu_shard.proofs.sending.send_message.Goals as goal

pub returns : goal.returns
returns g c = rw (c.channel.ensures, c.turn_message-message.ensures.message) at c.send_fixed.ensures
