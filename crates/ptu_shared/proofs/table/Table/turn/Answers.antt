-- A message changes no logarithm, so the share stays. Each send that fails is counted.
use Rattle.std.proofs.Common.{◌∙◌, sym}
use Rattle.ptu_shard.specs.Turn.{is_due_row}
use Rattle.ptu_admit.proofs.Sendings.{spent_all}
use Rattle.ptu_shared.proofs.Failing.{counted_more}
use Rattle.ptu_shared.proofs.table.Table.turn.Goals as goal

pub invariant_of-self-clause-same : goal.invariant_of-self-clause-same
invariant_of-self-clause-same g c = c.args.self.now.same ∙ sym (spent_all (is_due_row c.turn-turned.result.at) c.turn-turned.result.at c.args.self.now.shard.rows c.turn-turned.new.self.rows c.turn-turned.ensures.rows)

pub invariant_of-self-clause-failures : goal.invariant_of-self-clause-failures
invariant_of-self-clause-failures g c =
    rw c.plus-self.ensures.failed
    (counted_more g.P.Port _ _ _ _ _ _ _ c.args.self.now.failures c.turn-turned.ensures.sends)
