use Rattle.std.proofs.Common.{arith, refl, sym}
use Rattle.ptu_shard.specs.Answered.{failed_by, met_by, sent_by}
use Rattle.ptu_shared.proofs.Histories.{answered}
use Rattle.ptu_shared.proofs.lawful.LawfulTable.answer_delay.Goals as goal

pub invariant_of-self : goal.invariant_of-self
invariant_of-self g c =
    let did = c.answer_delay.ensures in (
      rw did.sent
          (answered g.P.Port g.L.Rates.told g.L.Rates.config g.J.Place.index (g.L.Rates.opened g.J.Place.index) c.self.inside.table.shard c.answer_delay.new.self.shard _ _ c.self.invariant.0
          c.answer_delay.new.self.shard.moment (sent_by c.answer_delay.result) (failed_by c.answer_delay.result) refl (omega (arith, did.moment))
          c.args.client.now c.args.request.now (met_by c.answer_delay.result) c.requires.table (rw (sym c.requires.config) did.sends) did.met did.stands),
      c.self.invariant.1,
    )
