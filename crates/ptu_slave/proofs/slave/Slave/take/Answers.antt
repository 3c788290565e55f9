use Rattle.std.proofs.Common.{◌∙◌, List, ap, ap₂, subst, sym}
use Rattle.ptu_outside.{proofs.HandsOver.{hands_none}, specs.HandsOver.{HandsOver}}
use Rattle.ptu_profile.specs.declared.slave.{Master.{Master}, SlaveConfig.{SlaveConfig}}
use Rattle.ptu_slave_messages.specs.declared.content.Accepted.{Accepted}
use Rattle.ptu_outside.specs.Replies.{reply_failed, reply_sent}
use Rattle.ptu_slave_messages.specs.Heard.{content_of, replies_in, reply_in, taken_or_not}
use Rattle.ptu_slave_messages.specs.Reception.{reception}
use Rattle.ptu_slave.proofs.Hearing.{event_sync, refused_from, same_taken, taken_from}
use Rattle.ptu_slave.specs.Seen.{seen}
use Rattle.ptu_slave.proofs.slave.Slave.take.Goals as goal

pub returns-in-Ok-clause-steps : goal.returns-in-Ok-clause-steps
unfolding seen
returns-in-Ok-clause-steps g c = λ m message received ok openings L h.
    let answer = sym c.in-Ok.is ∙ c.in_ok-received.ensures.answer
    ∙ ap₂ (λ (config : SlaveConfig) (masters : List Master). taken_or_not config.wants (reception config masters c.args.from c.args.bytes.now)) c.config.ensures c.masters.ensures.masters in
    let is = same_taken c.args.self.now.core.config.wants (reception c.args.self.now.core.config c.args.self.now.core.masters c.args.from c.args.bytes.now) c.in-Ok.taken m message received answer in
    rw (← is.0) (c.hear.ensures.steps message is.1 openings L h)

pub returns-in-Ok-clause-sends : goal.returns-in-Ok-clause-sends
unfolding seen
returns-in-Ok-clause-sends g c =
    let answer = sym c.in-Ok.is ∙ c.in_ok-received.ensures.answer
    ∙ ap₂ (λ (config : SlaveConfig) (masters : List Master). taken_or_not config.wants (reception config masters c.args.from c.args.bytes.now)) c.config.ensures c.masters.ensures.masters in
    let is = taken_from c.args.self.now.core.config.wants (reception c.args.self.now.core.config c.args.self.now.core.masters c.args.from c.args.bytes.now) c.in-Ok.taken answer in
    subst (λ r. HandsOver g.P.Port c.args.self.now.port c.hear.new.port
    (replies_in c.args.self.now.core.config c.args.self.now.core.masters r) (reply_sent (reply_in c.hear.result)) (reply_failed (reply_in c.hear.result)))
    (sym is.received) (c.hear.ensures.sends is.message is.kept)

pub returns-in-Ok-clause-judge : goal.returns-in-Ok-clause-judge
unfolding seen
returns-in-Ok-clause-judge g c = λ m message stamp received body_is ok.
    let answer = sym c.in-Ok.is ∙ c.in_ok-received.ensures.answer
    ∙ ap₂ (λ (config : SlaveConfig) (masters : List Master). taken_or_not config.wants (reception config masters c.args.from c.args.bytes.now)) c.config.ensures c.masters.ensures.masters in
    let is = same_taken c.args.self.now.core.config.wants (reception c.args.self.now.core.config c.args.self.now.core.masters c.args.from c.args.bytes.now) c.in-Ok.taken m message received answer in
    rw (← is.0, ← ap (λ (k : Accepted). k.sequence) is.1)
    (c.hear.ensures.judge (ap (λ (k : Accepted). k.content) is.1 ∙ ap (content_of c.args.self.now.core.config.wants) body_is))

pub returns-in-Ok-clause-others : goal.returns-in-Ok-clause-others
unfolding seen
returns-in-Ok-clause-others g c = λ m message received differs.
    let answer = sym c.in-Ok.is ∙ c.in_ok-received.ensures.answer
    ∙ ap₂ (λ (config : SlaveConfig) (masters : List Master). taken_or_not config.wants (reception config masters c.args.from c.args.bytes.now)) c.config.ensures c.masters.ensures.masters in
    let is = same_taken c.args.self.now.core.config.wants (reception c.args.self.now.core.config c.args.self.now.core.masters c.args.from c.args.bytes.now) c.in-Ok.taken m message received answer in
    c.hear.ensures.others (λ sync. differs (event_sync c.args.self.now.core.config.wants m message (sym (ap (λ (k : Accepted). k.content) is.1) ∙ sync)))

pub returns-in-Err-clause-sends : goal.returns-in-Err-clause-sends
unfolding seen
returns-in-Err-clause-sends g c =
    let answer = sym c.in-Err.is ∙ c.in_ok-received.ensures.answer
    ∙ ap₂ (λ (config : SlaveConfig) (masters : List Master). taken_or_not config.wants (reception config masters c.args.from c.args.bytes.now)) c.config.ensures c.masters.ensures.masters in
    subst (λ r. HandsOver g.P.Port c.args.self.now.port c.args.self.now.port (replies_in c.args.self.now.core.config c.args.self.now.core.masters r) 0 0)
    (sym (refused_from c.args.self.now.core.config.wants (reception c.args.self.now.core.config c.args.self.now.core.masters c.args.from c.args.bytes.now) c.in-Err.reason answer))
    (hands_none g.P.Port c.args.self.now.port)
