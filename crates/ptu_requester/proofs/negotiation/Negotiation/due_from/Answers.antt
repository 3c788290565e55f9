use Rattle.std.proofs.Common.{◌<◌, subst}
use Rattle.ptu_record.specs.Asks.{ask_gate, refusal_gate, renewal_gate}
use Rattle.ptu_requester.proofs.{Gates.{greatest_of_three}, Waiting.{not_due}}
use Rattle.ptu_requester.proofs.negotiation.Negotiation.due_from.Goals as goal

pub returns-clause-gate : goal.returns-clause-gate
returns-clause-gate c = λ k L h.
    rw (c.max-2.ensures, c.max.ensures, c.ask_gate.ensures k L h, c.refusal_gate.ensures k L h, c.renewal_gate.ensures k L h)
    (greatest_of_three (ask_gate k L) (refusal_gate k L) (renewal_gate k L c.args.t))

pub returns-clause-idle : goal.returns-clause-idle
returns-clause-idle c = λ k L h x low high. not_due k L c.args.t x low (subst (λ n. x < n) (returns-clause-gate c k L h) high)
