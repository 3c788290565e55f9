use Rattle.std.proofs.Common.{arith}
use Rattle.ptu_requester.proofs.Waiting.{none_due}
use Rattle.ptu_requester.proofs.negotiations.Negotiations.due_from.Goals as goal

pub returns : goal.returns
returns c = λ L h x low high.
    none_due c.args.wants.now L x
    (c.due_from-announce.ensures.idle _ L h.announce x low (omega (arith, high, c.min.ensures, c.min-2.ensures)))
    (c.due_from-sync.ensures.idle _ L h.sync x low (omega (arith, high, c.min.ensures, c.min-2.ensures)))
    (c.delay_due_from.ensures L h x low (omega (arith, high, c.min.ensures, c.min-2.ensures)))
