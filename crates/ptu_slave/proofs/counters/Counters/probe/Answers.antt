use Rattle.std.proofs.Common.{refl}
use Rattle.ptu_slave.proofs.Entering.{counted_delay_req}
use Rattle.ptu_slave.proofs.counters.Counters.probe.Goals as goal

pub returns-clause-counted : goal.returns-clause-counted
returns-clause-counted c = λ L m h. rw c.if-not-is_sent.false (counted_delay_req c.args.self.now _ L c.args.at m refl refl refl h)
