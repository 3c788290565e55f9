use Rattle.std.proofs.Common.{refl}
use Rattle.ptu_slave.proofs.Entering.{counted_signaling}
use Rattle.ptu_slave.proofs.counters.Counters.signal.Goals as goal

pub returns-then-is_sent-clause-counted : goal.returns-then-is_sent-clause-counted
returns-then-is_sent-clause-counted c = λ L m h. rw c.if-is_sent.true (counted_signaling c.args.self.now _ L c.args.at m refl refl refl h)
