use Rattle.ptu_shared.proofs.Histories.{at_first}
use Rattle.ptu_shared.proofs.lawful.LawfulTable.new.Goals as goal

pub invariant_of-result : goal.invariant_of-result
invariant_of-result g c =
    (rw c.args.unturned.none (at_first g.P.Port g.L.Rates.told g.L.Rates.config g.J.Place.index (g.L.Rates.opened g.J.Place.index) c.args.table.shard _ (c.requires.stands g.J.Place.index) c.requires.port c.requires.sent), c.args.unturned.one)
