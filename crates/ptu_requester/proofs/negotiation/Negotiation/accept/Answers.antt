use Rattle.std.proofs.{Common.{refl, sym, ◌∙◌}, lemmas.Bool.{cond-true, cond-false}}
use Rattle.ptu_requester.proofs.Entered.{kept_granted}
use Rattle.ptu_requester.proofs.negotiation.Negotiation.accept.Goals as goal
use Rattle.ptu_requester.proofs.negotiation.Negotiation.accept.Goals.{then-is_live, else-is_live}

pub returns : goal.returns
returns c = λ k L m h.
    kept_granted k L c.args.t m c.args.seconds c.args.self.now _ c.if-is_live.self refl
    (elim c.if-is_live.branch [
      | then-is_live w ↦ w.self-is ∙ sym (cond-true _ _ _ (sym (c.is_live.ensures k L h) ∙ w.if-is_live.true))
      | else-is_live w ↦ w.self-is ∙ sym (cond-false _ _ _ (sym (c.is_live.ensures k L h) ∙ w.if-is_live.false))
    ]) h
