use Rattle.std.proofs.Common.{◌∙◌, ap, subst, sym}
use Rattle.std.specs.List.{filter_map}
use Rattle.ptu_outside.specs.HandsOver.{HandsOver}
use Rattle.ptu_record.specs.Step.{cancel_code}
use Rattle.ptu_slave_messages.specs.declared.content.Accepted.{Accepted}
use Rattle.ptu_profile.specs.Slave.{address_of}
use Rattle.ptu_outside.specs.Replies.{reply_failed, reply_sent}
use Rattle.ptu_slave_messages.specs.Heard.{said_by}
use Rattle.ptu_slave.proofs.Hearing.{acks_are, event_sync, reply_is, said_in}
use Rattle.ptu_slave.proofs.slave.hear.Goals as goal

pub returns-in-Sync-clause-steps : goal.returns-in-Sync-clause-steps
returns-in-Sync-clause-steps g c = λ message is openings L h.
    rw (
      event_sync c.args.core.now.config.wants c.args.taken.master message (sym (ap (λ (k : Accepted). k.content) is) ∙ c.in-Sync.is),
      ← ap (λ (k : Accepted). k.sequence) is,
    )
    (c.take_news-at.ensures.judge.2 openings L h).0

pub returns-in-Signals-clause-steps : goal.returns-in-Signals-clause-steps
returns-in-Signals-clause-steps g c = λ message is openings L h.
    let said = said_in c.args.core.now.config.wants c.args.taken.master message c.in-Signals.list c.in-Signals.acks (sym (ap (λ (k : Accepted). k.content) is) ∙ c.in-Signals.is) in
    rw said.event (c.take_signaling-at.ensures.steps openings _ L message.header.sequence said.tlvs (c.list.ensures ∙ said.list) h)

pub returns-in-Signals-clause-sends : goal.returns-in-Signals-clause-sends
returns-in-Signals-clause-sends g c = λ message is.
    let said = said_in c.args.core.now.config.wants c.args.taken.master message c.in-Signals.list c.in-Signals.acks (sym (ap (λ (k : Accepted). k.content) is) ∙ c.in-Signals.is) in
    let codes = filter_map cancel_code (filter_map said_by said.tlvs) in
    subst (λ ds. HandsOver g.P.Port c.args.port.now c.send_reply-reply.new.port ds
    (reply_sent c.send_reply-reply.result) (reply_failed c.send_reply-reply.result))
    (reply_is c.args.core.now.config c.config.result.now c.args.core.now.masters c.args.taken.master c.address-ip.result c.args.taken.sequence c.args.taken.source codes message
    (c.config.ensures ∙ c.take_signaling-at.ensures.same.config) (c.address-ip.ensures ∙ ap (λ ms. address_of ms c.args.taken.master) c.take_signaling-at.ensures.same.masters)
    (ap (λ (k : Accepted). k.source) is) (ap (λ (k : Accepted). k.sequence) is) said.replies)
    (c.send_reply-reply.ensures.sends c.args.taken.master codes (c.list-in-Signals.ensures ∙ said.acks ∙ acks_are said.tlvs))
