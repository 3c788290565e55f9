use Rattle.ptu_requester.proofs.Entered.{kept_cancelled}
use Rattle.ptu_requester.proofs.negotiation.Negotiation.cancel.Goals as goal

pub returns : goal.returns
returns c = λ k L m h. kept_cancelled k L c.args.t m c.args.self.now h
