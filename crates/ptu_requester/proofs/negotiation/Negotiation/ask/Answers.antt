use Rattle.std.proofs.Common.{inl, inr, arith}
use Rattle.ptu_requester.proofs.Entered.{kept_asked}
use Rattle.ptu_requester.proofs.negotiation.Negotiation.ask.Goals as goal
use Rattle.ptu_requester.proofs.negotiation.Negotiation.ask.Goals.{then-self-lt2, else-self-lt2}

pub returns : goal.returns
returns c = λ k L m h.
    kept_asked k L c.args.t m c.args.self.now c.if-self-lt2.self
    (elim c.if-self-lt2.branch [ then-self-lt2 w ↦ inl (omega arith, omega arith) | else-self-lt2 w ↦ inr (omega arith, omega arith) ]) h
