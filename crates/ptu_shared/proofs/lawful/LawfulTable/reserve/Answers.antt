use Rattle.ptu_shared.proofs.Histories.{same_table}
use Rattle.ptu_shared.proofs.lawful.LawfulTable.reserve.Goals as goal

pub invariant_of-self : goal.invariant_of-self
invariant_of-self g c = (
  rw c.reserve.ensures.sent
      (same_table g.P.Port g.L.Rates.told g.L.Rates.config g.J.Place.index (g.L.Rates.opened g.J.Place.index) c.self.inside.table.shard c.reserve.new.self.shard _ _ c.self.invariant.0
      c.reserve.ensures.port c.reserve.ensures.moment c.reserve.ensures.stands),
  c.self.invariant.1,
)
