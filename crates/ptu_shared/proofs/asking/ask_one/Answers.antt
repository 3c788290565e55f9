use Rattle.std.proofs.Common.{arith, subst}
use Rattle.ptu_admit.specs.Alone.{GoesOnAlone}
use Rattle.ptu_shared.proofs.Verdicts.{answers_one}
use Rattle.ptu_shared.proofs.asking.ask_one.Goals as goal

pub returns-clause-outcome : goal.returns-clause-outcome
returns-clause-outcome g c = λ opening rest history standing.
    rw (c.audit_table.ensures.table, c.audit_table.ensures.desk.0) at
    (c.decide_one-verdict.ensures.verdict opening rest history (rw (c.audit_table.ensures.table, c.audit_table.ensures.desk.0) standing))

pub returns-clause-verdict : goal.returns-clause-verdict
returns-clause-verdict g c =
    let decided = c.decide_one-verdict.ensures in
    answers_one g.L.Rates.most c.args.demand.now.config.now c.args.demand.now.at _ _ c.args.demand.now.client.now c.args.demand.now.ask.now (omega arith) (omega arith) _ c.decide_one-verdict.result decided.at decided.whose decided.answer

pub returns-clause-alone : goal.returns-clause-alone
returns-clause-alone g c =
    subst (λ j. GoesOnAlone j c.args.table.now.shard c.decide_one-verdict.new.shard) c.requires.table
    (rw (c.audit_table.ensures.table) at c.decide_one-verdict.ensures.alone)
