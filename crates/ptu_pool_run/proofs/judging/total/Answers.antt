use Rattle.std.proofs.Common.{arith}
use Rattle.ptu_pool_run.proofs.judging.total.Goals as goal

pub overflow_add-sum : goal.overflow_add-sum
overflow_add-sum c = omega (arith, c.requires, c.loop-pool-test.true, c.loop-pool.invariant.1, c.get-sum.ensures.range.1)
