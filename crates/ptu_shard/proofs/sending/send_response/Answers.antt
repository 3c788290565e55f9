use Rattle.ptu_shard.proofs.sending.send_response.Goals as goal

pub returns : goal.returns
returns g c = rw c.response_message-message.ensures.message at c.send_fixed.ensures
