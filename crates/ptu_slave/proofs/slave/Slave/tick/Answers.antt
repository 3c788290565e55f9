use Rattle.std.proofs.Common.{◌∙◌, ap, length, map, subst}
use Rattle.ptu_outside.specs.HandsOver.{HandsOver}
use Rattle.ptu_slave_messages.specs.Sending.{sending_departure}
use Rattle.ptu_profile.specs.Target.{all_ones}
use Rattle.ptu_slave.specs.{Kept.{Kept}, Seen.{seen}}
use Rattle.ptu_slave.proofs.Ticking.{tick_states, ticked}
use Rattle.ptu_slave.proofs.slave.Slave.tick.Goals as goal

pub returns-clause-ticked : goal.returns-clause-ticked
unfolding seen
returns-clause-ticked g c =
    let judged = c.judge_all.ensures.judged in
    let handed = c.tick_all-sends.ensures.sends.0 in
    record {
      at = c.begin-at.ensures.at;
      steps = λ openings L h.
          (ticked openings c.args.self.now.core c.begin-at.new.self c.judge_all.new.core c.tick_all-sends.new.core _ _ L c.args.t c.begin-at.result judged.0 handed
          h c.begin-at.ensures.at c.begin-at.ensures.rest judged.2 c.tick_all-sends.ensures.sends.1).0;
      asked = (
        judged.0,
        rw (← c.begin-at.ensures.at, ← ap (λ (k : Kept). length k.masters) c.begin-at.ensures.rest) judged.1,
        λ openings L h.
            ticked openings c.args.self.now.core c.begin-at.new.self c.judge_all.new.core c.tick_all-sends.new.core _ _ L c.args.t c.begin-at.result judged.0 handed
            h c.begin-at.ensures.at c.begin-at.ensures.rest judged.2 c.tick_all-sends.ensures.sends.1,
      );
      sends = (
        handed,
        subst (λ ds. HandsOver g.P.Port c.args.self.now.port c.tick_all-sends.new.port ds c.tick_all-sends.result.sent c.tick_all-sends.result.failed)
            (ap (λ (k : Kept). map (sending_departure k.config k.masters all_ones) handed) judged.2.rest
            ∙ ap (λ (k : Kept). map (sending_departure k.config k.masters all_ones) handed) c.begin-at.ensures.rest)
            c.tick_all-sends.ensures.sends.2,
        λ openings L h.
            tick_states openings c.args.self.now.core c.begin-at.new.self c.judge_all.new.core c.tick_all-sends.new.core _ _ L c.args.t c.begin-at.result judged.0 handed
            h c.begin-at.ensures.at c.begin-at.ensures.rest judged.2 c.tick_all-sends.ensures.sends.1,
      );
    }
