use Rattle.std.proofs.Common.{ap₂, leb}
use Rattle.ptu_requester.proofs.negotiation.Negotiation.is_due.Goals as goal

pub returns : goal.returns
returns c = λ k L h. ap₂ leb (c.due_from-gate.ensures.gate k L h) c.nanos.ensures.value
