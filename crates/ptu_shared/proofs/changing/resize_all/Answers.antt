use Rattle.ptu_shared.proofs.changing.resize_all.Goals as goal

pub returns-clause-alone : goal.returns-clause-alone
returns-clause-alone g c =
    let tables = c.audit_tables-before.ensures.tables in
    rw (tables.0, tables.1, tables.2, tables.3) at c.resize-resized.ensures.alone
