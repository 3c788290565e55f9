use Rattle.ptu_requester.proofs.Entered.{kept_denied}
use Rattle.ptu_requester.proofs.negotiation.Negotiation.deny.Goals as goal

pub returns : goal.returns
returns c = λ k L m h. kept_denied k L c.args.t m c.args.self.now h
