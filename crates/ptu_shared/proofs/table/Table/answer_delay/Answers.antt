-- A message changes no logarithm, so the share stays. A send that fails is counted.
use Rattle.std.proofs.Common.{◌∙◌, sym}
use Rattle.ptu_shard.specs.Turn.{is_answering_row}
use Rattle.ptu_admit.proofs.Sendings.{spent_all}
use Rattle.ptu_shared.proofs.Failing.{counted_more}
use Rattle.ptu_shared.proofs.table.Table.answer_delay.Goals as goal

pub invariant_of-self-clause-same : goal.invariant_of-self-clause-same
invariant_of-self-clause-same g c = c.args.self.now.same ∙ sym (spent_all (is_answering_row c.answer_delay-answered.new.self.moment c.args.client.now) c.answer_delay-answered.new.self.moment c.args.self.now.shard.rows c.answer_delay-answered.new.self.rows c.answer_delay-answered.ensures.rows)

pub invariant_of-self-clause-failures : goal.invariant_of-self-clause-failures
invariant_of-self-clause-failures g c =
    rw (c.plus-self.ensures.failed, c.failed_of.ensures)
    (counted_more g.P.Port _ _ _ _ _ _ _ c.args.self.now.failures c.answer_delay-answered.ensures.sends)
