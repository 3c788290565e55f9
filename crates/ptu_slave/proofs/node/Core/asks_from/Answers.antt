use Rattle.std.proofs.Common.{arith}
use Rattle.ptu_record.specs.Tick.{requests_to}
use Rattle.ptu_slave.proofs.Waiting.{nothing_to_more}
use Rattle.ptu_slave.proofs.node.Core.asks_from.Goals as goal

pub loop-master-preserved : goal.loop-master-preserved
loop-master-preserved c = λ L h x low high.
    nothing_to_more (requests_to c.args.self.now.config.wants L x) c.loop-master.master
    (c.loop-master.invariant L h x low (omega (arith, high, c.min-from.ensures)))
    (c.asks_one_from.ensures L h x low (omega (arith, high, c.min-from.ensures)))
