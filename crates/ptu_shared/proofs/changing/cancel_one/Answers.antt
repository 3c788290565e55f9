use Rattle.std.proofs.Common.{subst}
use Rattle.ptu_admit.specs.Alone.{GoesOnAlone}
use Rattle.ptu_shared.proofs.changing.cancel_one.Goals as goal

pub returns-clause-live : goal.returns-clause-live
returns-clause-live g c = λ opening rest history standing. c.cancel-cancelled.ensures.live opening rest history
    (rw (c.audit_table.ensures.table, c.audit_table.ensures.desk.0) standing)

pub returns-clause-stands : goal.returns-clause-stands
returns-clause-stands g c = λ opened rest history standing alone. c.cancel-cancelled.ensures.stands opened rest history
    (rw (c.audit_table.ensures.table, c.audit_table.ensures.desk.0) standing) alone

pub returns-clause-alone : goal.returns-clause-alone
returns-clause-alone g c =
    subst (λ j. GoesOnAlone j c.args.table.now.shard c.cancel-cancelled.new.shard) c.requires
    (rw (c.audit_table.ensures.table) at c.cancel-cancelled.ensures.alone)
