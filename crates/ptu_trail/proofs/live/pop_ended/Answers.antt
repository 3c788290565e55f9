use Rattle.ptu_trail.proofs.Ends.{all_live}
use Rattle.ptu_trail.proofs.live.pop_ended.Goals as goal

pub returns-then-n-end-clause-none : goal.returns-then-n-end-clause-none
returns-then-n-end-clause-none c = all_live c.args.n _ c.args.rates.now.entries c.if-n-end.true c.in_ok-end.ensures.all_from
