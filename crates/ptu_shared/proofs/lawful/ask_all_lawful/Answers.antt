use Rattle.ptu_shared.proofs.Histories.{decided}
use Rattle.ptu_shared.proofs.lawful.ask_all_lawful.Goals as goal

pub invariant_of-t0 : goal.invariant_of-t0
invariant_of-t0 g c =
    (rw c.ask_all.ensures.tallies.0 (decided g.P.Port g.L.Rates.told g.L.Rates.config 0 (g.L.Rates.opened 0) c.t0.inside.table.shard c.ask_all.new.t0.shard _ _ c.t0.invariant.0 c.ask_all.ensures.alone.0 c.ask_all.ensures.ports.0), c.t0.invariant.1)

pub invariant_of-t1 : goal.invariant_of-t1
invariant_of-t1 g c =
    (rw c.ask_all.ensures.tallies.1 (decided g.P.Port g.L.Rates.told g.L.Rates.config 1 (g.L.Rates.opened 1) c.t1.inside.table.shard c.ask_all.new.t1.shard _ _ c.t1.invariant.0 c.ask_all.ensures.alone.1 c.ask_all.ensures.ports.1), c.t1.invariant.1)

pub invariant_of-t2 : goal.invariant_of-t2
invariant_of-t2 g c =
    (rw c.ask_all.ensures.tallies.2 (decided g.P.Port g.L.Rates.told g.L.Rates.config 2 (g.L.Rates.opened 2) c.t2.inside.table.shard c.ask_all.new.t2.shard _ _ c.t2.invariant.0 c.ask_all.ensures.alone.2 c.ask_all.ensures.ports.2), c.t2.invariant.1)

pub invariant_of-t3 : goal.invariant_of-t3
invariant_of-t3 g c =
    (rw c.ask_all.ensures.tallies.3 (decided g.P.Port g.L.Rates.told g.L.Rates.config 3 (g.L.Rates.opened 3) c.t3.inside.table.shard c.ask_all.new.t3.shard _ _ c.t3.invariant.0 c.ask_all.ensures.alone.3 c.ask_all.ensures.ports.3), c.t3.invariant.1)
