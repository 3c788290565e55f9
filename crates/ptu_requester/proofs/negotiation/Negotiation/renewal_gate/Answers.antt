use Rattle.std.proofs.Common.{ap, sym, ◌∙◌, ◌+◌, ◌*◌, ℕ}
use Rattle.ptu_requester.proofs.Gates.{renewal_live, renewal_over, renewal_none}
use Rattle.ptu_requester.proofs.negotiation.Negotiation.renewal_gate.Goals as goal

pub returns-then-not-is_live : goal.returns-then-not-is_live
returns-then-not-is_live c = λ k L h. renewal_over k L c.args.t (sym (c.is_live.ensures k L h) ∙ c.if-not-is_live.true)

pub returns-in-Some : goal.returns-in-Some
returns-in-Some c = λ k L h.
    ap (λ (x : ℕ). x + c.in-Some.term.seconds * 500000000) c.nanos.ensures.value
    ∙ renewal_live k L c.args.t c.args.self.now c.in-Some.term h c.in-Some.is (sym (c.is_live.ensures k L h) ∙ c.if-not-is_live.false)

pub returns-in-None : goal.returns-in-None
returns-in-None c = λ k L h. renewal_none k L c.args.t c.args.self.now h c.in-None.is
