use Rattle.std.proofs.Common.{arith}
use Rattle.ptu_admit.specs.Lent.{four}
use Rattle.ptu_admit.proofs.RowKeys.{rows_in-shares}
use Rattle.ptu_admit.proofs.resizing.count_above.Goals as goal

pub overflow_add-result : goal.overflow_add-result
overflow_add-result g c = omega (arith, c.requires, c.total-total.ensures.value, c.total-total.type_inv, c.count.ensures.count, c.count-2.ensures.count, rows_in-shares (four c.args.s0.now c.args.s1.now c.args.s2.now c.args.s3.now))

pub overflow_add-result-2 : goal.overflow_add-result-2
overflow_add-result-2 g c = omega (arith, c.requires, c.total-total.ensures.value, c.total-total.type_inv, c.count.ensures.count, c.count-2.ensures.count, c.count-3.ensures.count, rows_in-shares (four c.args.s0.now c.args.s1.now c.args.s2.now c.args.s3.now))

pub overflow_add-result-3 : goal.overflow_add-result-3
overflow_add-result-3 g c = omega (arith, c.requires, c.total-total.ensures.value, c.total-total.type_inv, c.count.ensures.count, c.count-2.ensures.count, c.count-3.ensures.count, c.count-4.ensures.count, rows_in-shares (four c.args.s0.now c.args.s1.now c.args.s2.now c.args.s3.now))
