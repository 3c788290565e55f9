use Rattle.ptu_shared.proofs.Histories.{decided}
use Rattle.ptu_shared.proofs.lawful.ask_lawful.Goals as goal

pub invariant_of-table : goal.invariant_of-table
invariant_of-table g c =
    (rw c.ask_one.ensures.tally (decided g.P.Port g.L.Rates.told g.L.Rates.config g.J.Place.index (g.L.Rates.opened g.J.Place.index) c.table.inside.table.shard c.ask_one.new.table.shard _ _ c.table.invariant.0 c.ask_one.ensures.alone c.ask_one.ensures.port), c.table.invariant.1)
