use Rattle.std.proofs.Common.{◌≡◌, ◌∙◌, [], refl, sym, ap, Ok}
use Rattle.ptu_gm_messages.specs.declared.heard.Heard.{Heard}
use Rattle.ptu_gm_messages.specs.declared.heard.Heard.TheVariants as heard
use Rattle.ptu_gm_messages.specs.Items.{AreAnswerable}
use Rattle.ptu_lanes.proofs.Exchanges.{both_ok, ignored_is, replied_is}
use Rattle.ptu_lanes.proofs.answering.answer_datagram.Goals as goal

pub returns-in-Ok-Asks-clause-replied : goal.returns-in-Ok-Asks-clause-replied
returns-in-Ok-Asks-clause-replied g c =
    let header = c.in-Ok-Asks.header in
    let items = c.in-Ok-Asks.items in
    let found : c.in_ok-header.field-0 ≡ Ok (heard.Asks header items) = c.in-Ok-Asks.is ∙ ap (λ (h : Heard). Ok h) c.in-Ok-Asks.field-0-is in
    let answerable : AreAnswerable items = rw found at c.in_ok-header.ensures.answerable in
    both_ok c.answer_signaling.result _ _ _ (λ control answered asks. (
      answered.0,
      replied_is g.P.Port g.L.Rates.most c.args.service.now.base.now.config.now c.args.origin.from c.args.bytes.now header items answered.0 _ _ _ _ _ _ _ _
          (sym c.in_ok-header.ensures.heard ∙ found) answerable.few (rw c.list.ensures at answered.1) answered.2 (rw c.list.ensures at answered.3) answered.4 asks,
    )) c.answer_signaling.ensures.answered c.answer_signaling.ensures.asks

pub returns-in-Ok-DelayReq-clause-replied : goal.returns-in-Ok-DelayReq-clause-replied
returns-in-Ok-DelayReq-clause-replied g c = (
  [],
  ignored_is g.P.Port g.L.Rates.most c.args.service.now.base.now.config.now c.args.origin.from c.args.bytes.now _ _ _
      (sym c.in_ok-header.ensures.heard ∙ c.in-Ok-DelayReq.is ∙ ap (λ (h : Heard). Ok h) c.in-Ok-DelayReq.field-0-is) refl refl refl,
)

pub returns-in-Err-clause-replied : goal.returns-in-Err-clause-replied
returns-in-Err-clause-replied g c =
    ([], ignored_is g.P.Port g.L.Rates.most c.args.service.now.base.now.config.now c.args.origin.from c.args.bytes.now _ _ _ (sym c.in_ok-header.ensures.heard ∙ c.in-Err.is) refl refl refl)
