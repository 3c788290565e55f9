-- The verdict was found at the greatest of three moments, under the capacity of the book.
use Rattle.std.proofs.Common.{arith}
use Rattle.ptu_shared.proofs.Verdicts.{answers_ask}
use Rattle.ptu_shared.proofs.asking.ask_all.Goals as goal

pub returns-clause-verdict : goal.returns-clause-verdict
returns-clause-verdict g c = answers_ask g.L.Rates.most c.args.demand.now.config.now c.args.demand.now.at _ _ c.args.demand.now.client.now c.args.demand.now.ask.now (omega arith) (omega arith) _ c.decide_all-verdict.result c.decide_all-verdict.ensures.at c.decide_all-verdict.ensures.whose c.decide_all-verdict.ensures.answer

pub returns-clause-answer : goal.returns-clause-answer
returns-clause-answer g c =
    let tables = c.audit_tables-before.ensures.tables in
    rw (tables.0, tables.1, tables.2, tables.3, c.audit_tables-before.ensures.desk.0) at c.decide_all-verdict.ensures.answer

pub returns-clause-alone : goal.returns-clause-alone
returns-clause-alone g c =
    let tables = c.audit_tables-before.ensures.tables in
    rw (tables.0, tables.1, tables.2, tables.3) at c.decide_all-verdict.ensures.alone

pub returns-clause-outcome : goal.returns-clause-outcome
returns-clause-outcome g c =
    let tables = c.audit_tables-before.ensures.tables in
    rw (tables.0, tables.1, tables.2, tables.3, c.audit_tables-before.ensures.desk.0) at c.decide_all-verdict.ensures.verdict

pub returns-clause-stands : goal.returns-clause-stands
returns-clause-stands g c =
    let tables = c.audit_tables-before.ensures.tables in
    rw (tables.0, tables.1, tables.2, tables.3, c.audit_tables-before.ensures.desk.0) at c.decide_all-verdict.ensures.stands
