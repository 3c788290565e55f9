use Rattle.std.proofs.Common.{◌≡◌, List, map, length, take, sym, ap, subst, ◌∙◌, arith}
use Rattle.std.specs.List.{All}
use Rattle.std.proofs.lemmas.List.{length-map}
use Rattle.ptu_messages.specs.{declared.tlv.Tlv.{Tlv}, TlvsSent.{IsSendable}}
use Rattle.ptu_messages.specs.Sent.{AlwaysSpells, octets_sent}
use Rattle.ptu_gm_messages.specs.Replies.{signaling_of}
use Rattle.ptu_grandmaster.specs.declared.outcome.Outcome.{Outcome}
use Rattle.ptu_grandmaster.specs.Outcomes.{answers_seen, item_seen}
use Rattle.ptu_grandmaster.proofs.Answering.{answer_of, answers-each, answers_sendable}
use Rattle.ptu_grandmaster.proofs.replying.reply_of.Goals as goal

pub write_reply-requires-clause-few : goal.write_reply-requires-clause-few
write_reply-requires-clause-few c = omega (arith, ap length c.list.ensures, length-map c.args.outcomes.now item_seen, c.requires.few)

pub write_reply-requires-clause-sendable : goal.write_reply-requires-clause-sendable
write_reply-requires-clause-sendable c =
    let CanBeSent : List Outcome → Type 0 = λ outcomes. All IsSendable (map answer_of outcomes) in
    subst CanBeSent (sym c.list.ensures) (answers_sendable c.args.outcomes.now c.requires.codes)

pub returns-clause-octets : goal.returns-clause-octets
returns-clause-octets c =
    let same : map answer_of c.list.result.now ≡ answers_seen c.args.outcomes.now = ap (map answer_of) c.list.ensures ∙ answers-each c.args.outcomes.now in
    c.write_reply.ensures.octets ∙ ap (λ (tlvs : List Tlv). octets_sent (signaling_of c.args.config.now c.args.to.now c.args.sequence tlvs)) same

pub returns-clause-again : goal.returns-clause-again
returns-clause-again c =
    let same : map answer_of c.list.result.now ≡ answers_seen c.args.outcomes.now = ap (map answer_of) c.list.ensures ∙ answers-each c.args.outcomes.now in
    let IsRead : List Tlv → Type 0 = λ tlvs. AlwaysSpells (take c.write_reply.result c.write_reply.new.out) (signaling_of c.args.config.now c.args.to.now c.args.sequence tlvs) in
    subst IsRead same c.write_reply.ensures.again
