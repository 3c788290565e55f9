use Rattle.ptu_slave.proofs.{Entering.{uncounted_signals}, Quiet.{counts_kept}}
use Rattle.ptu_slave.proofs.node.Core.hear.Goals as goal

pub returns-clause-asks : goal.returns-clause-asks
returns-clause-asks c = rw (← c.self.view_is) (λ told L h. record {
  requester = c.enter_each.ensures.entered told h.requester;
  counters = counts_kept c.self.inside.counters.items L _ (uncounted_signals c.self.inside.config.wants c.args.at c.args.master c.args.signals.now) h.counters;
})
