use Rattle.std.proofs.Common.{◌∙◌, ap, length, sym}
use Rattle.ptu_slave.proofs.Hearing.{stands_fresh}
use Rattle.ptu_slave.specs.Seen.{seen}
use Rattle.ptu_slave.proofs.slave.Slave.new.Goals as goal

pub returns-clause-stands : goal.returns-clause-stands
unfolding seen
returns-clause-stands g c =
    stands_fresh _ c.args.judges.items c.in_ok-core.core c.requires.fresh (c.requires.judges ∙ ap length (sym c.in_ok-core.ensures.masters))
    c.in_ok-core.ensures.fresh.0 c.in_ok-core.ensures.fresh.1 c.in_ok-core.ensures.asks c.in_ok-core.ensures.selects
