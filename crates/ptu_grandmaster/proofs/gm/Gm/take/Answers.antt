use Rattle.std.proofs.Common.{◌∙◌, ◌++◌, List, ap, sym, subst}
use Rattle.ptu_units.specs.declared.client.Client.{Client}
use Rattle.ptu_history.specs.Core.{core_step, history_after}
use Rattle.ptu_history.specs.Events as events
use Rattle.ptu_gm_messages.specs.declared.item.Item.{Item}
use Rattle.ptu_gm_messages.specs.Deciding.{client_of, events_of_items, opened_with}
use Rattle.ptu_grandmaster.specs.Gm.{KeptGm, StandsFor}
use Rattle.ptu_grandmaster.proofs.Heard.{asked_is, heard_ok, history_after-none, history_after-one, on_err}
use Rattle.ptu_grandmaster.proofs.gm.Gm.take.Goals as goal

pub returns-in_err-outcomes-in-Ok-Asks-clause-memory : goal.returns-in_err-outcomes-in-Ok-Asks-clause-memory
returns-in_err-outcomes-in-Ok-Asks-clause-memory g c =
    on_err c.from_residual-in_err-outcomes-in-Ok-Asks.result _ (asked_is c.self.inside.config c.args.bytes.now c.in-Ok-Asks.header c.in-Ok-Asks.items
    (sym c.in_ok-reason.ensures.heard ∙ c.in-Ok-Asks.is ∙ ap heard_ok c.in-Ok-Asks.field-0-is))

pub returns-in-Err-clause-stands : goal.returns-in-Err-clause-stands
returns-in-Err-clause-stands g c =
    let h = sym c.in_ok-reason.ensures.heard ∙ c.in-Err.is in
    rw (← c.self.view_is, h) (λ opening history s. rw (history_after-none (opened_with opening c.self.inside.config) history) s)

pub returns-in-Ok-DelayReq-clause-stands : goal.returns-in-Ok-DelayReq-clause-stands
returns-in-Ok-DelayReq-clause-stands g c =
    let heard = sym c.in_ok-reason.ensures.heard ∙ c.in-Ok-DelayReq.is ∙ ap heard_ok c.in-Ok-DelayReq.field-0-is in
    let new = c.answer_delay-answered.new.self in
    rw (← c.self.view_is, heard) (λ opening history s.
    let opened = opened_with opening c.self.inside.config in
    let Stands : Client → Type 0 = λ cl. StandsFor opening new (history ++ (core_step opened history c.args.t (events.DelayReq cl)).records) in
    rw (history_after-one opened history c.args.t (events.DelayReq (client_of c.args.from c.in-Ok-DelayReq.header)))
    (subst Stands c.client_of.ensures (c.answer_delay-answered.ensures.stands opening history s)))

pub returns-in_ok-outcomes-in-Ok-Asks-clause-stands : goal.returns-in_ok-outcomes-in-Ok-Asks-clause-stands
returns-in_ok-outcomes-in-Ok-Asks-clause-stands g c =
    let heard = sym c.in_ok-reason.ensures.heard ∙ c.in-Ok-Asks.is ∙ ap heard_ok c.in-Ok-Asks.field-0-is in
    rw (← c.self.view_is, heard) (λ opening history s.
    let opened = opened_with opening c.self.inside.config in
    let n0 = (c.in_ok-outcomes-in-Ok-Asks.ensures.decided opening history s).1 in
    let OfClient : Client → Type 0 = λ cl. StandsFor opening c.decide_asks.new.self (history_after opened history (events_of_items c.args.t cl c.list.result.now)) in
    let n1 = subst OfClient c.client_of-in-Ok-Asks.ensures n0 in
    let cl = client_of c.args.from c.in-Ok-Asks.header in
    let OfItems : List Item → Type 0 = λ is. StandsFor opening c.decide_asks.new.self (history_after opened history (events_of_items c.args.t cl is)) in
    let n2 = subst OfItems c.list.ensures n1 in
    let OfGm : KeptGm g.row.P.Denot → Type 0 = λ gm. StandsFor opening gm (history_after opened history (events_of_items c.args.t cl c.in-Ok-Asks.items)) in
    let n3 = subst OfGm (sym c.self-in-Ok-Asks.view_is) n2 in
    record { decided = n3.decided; granted = n3.granted; refused = n3.refused; sequence = n3.sequence })
