use Rattle.std.proofs.Common.{◌∙◌, arith, sym}
use Rattle.ptu_shared.specs.Histories.{announced_as}
use Rattle.ptu_shared.proofs.Histories.{class_is, turned}
use Rattle.ptu_shared.proofs.lawful.LawfulTable.turn.Goals as goal

pub invariant_of-self : goal.invariant_of-self
invariant_of-self g c =
    let did = c.turn.ensures in (
      rw (did.sent, c.add.ensures.amount)
          (turned g.P.Port g.L.Rates.told g.L.Rates.config g.J.Place.index (g.L.Rates.opened g.J.Place.index) c.self.inside.table.shard c.turn.new.self.shard _ _ c.self.invariant.0
          c.turn.result.at c.turn.result.sent c.turn.result.failed did.moment (omega (arith, did.at))
          (announced_as c.self.inside.table.class g.L.Rates.config) (class_is g.L.Rates.told c.self.inside.table.class g.L.Rates.config c.self.inside.table.classes) (rw (sym c.requires.config) did.sends) did.messages did.stands),
      c.add.ensures.parts ∙ c.self.invariant.1,
    )
