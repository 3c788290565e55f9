use Rattle.std.proofs.Common.{refl}
use Rattle.ptu_grandmaster.proofs.AllTables.{asked_all, spare_kept}
use Rattle.ptu_grandmaster.proofs.gm.Gm.ask_all.Goals as goal

pub returns-clause-decided : goal.returns-clause-decided
returns-clause-decided g c =
    rw (← c.self.view_is) (
    asked_all c.self.inside.config c.args.t c.args.client.now c.self.inside.s0 c.self.inside.s1 c.self.inside.s2 c.self.inside.s3 c.decide_all.new.s0 c.decide_all.new.s1 c.decide_all.new.s2 c.decide_all.new.s3
    c.self.inside.book c.decide_all.new.book c.args.ask.now c.decide_all.result c.decide_all.ensures.at c.decide_all.ensures.verdict c.decide_all.ensures.stands
    )

pub returns-clause-keeps : goal.returns-clause-keeps
returns-clause-keeps g c =
    let k = c.decide_all.ensures.keeps in
    rw (← c.self.view_is) (record {
      spare = spare_kept c.args.client.now c.self.inside.s0 c.self.inside.s1 c.self.inside.s2 c.self.inside.s3 c.decide_all.new.s0 c.decide_all.new.s1 c.decide_all.new.s2 c.decide_all.new.s3 k.0 k.1 k.2 k.3;
      ports = record { p0 = k.0.port; p1 = k.1.port; p2 = k.2.port; p3 = k.3.port; reply = refl; config = refl; sequence = refl };
      granted = refl;
      refused = refl;
    })
