use Rattle.std.proofs.Common.{ℕ, [], ◌∷◌, take, subst}
use Rattle.ptu_messages.specs.declared.tlv.Tlv.TheVariants as tlv
use Rattle.ptu_messages.specs.Sent.{AlwaysSpells}
use Rattle.ptu_gm_messages.specs.Replies.{identity_of, signaling_of}
use Rattle.ptu_gm_messages.proofs.replying.cancel_of.Goals as goal

pub returns-clause-again : goal.returns-clause-again
returns-clause-again c =
    let IsRead : ℕ → Type 0 = λ code.
    AlwaysSpells (take c.write_reply.result c.write_reply.new.out)
    (signaling_of c.args.config.now (identity_of c.args.client.now) c.args.sequence (tlv.Cancel code ∷ [])) in
    subst IsRead c.code.ensures.code c.write_reply.ensures.again
