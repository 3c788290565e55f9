use Rattle.std.proofs.Common.{ap, map, refl, subst}
use Rattle.ptu_outside.specs.HandsOver.{HandsOver}
use Rattle.ptu_slave_messages.specs.Sending.{sending_departure}
use Rattle.ptu_profile.specs.Target.{all_ones}
use Rattle.ptu_slave.specs.{Kept.{Kept}, Seen.{seen}}
use Rattle.ptu_slave.proofs.Stopping.{stop_states, stopped}
use Rattle.ptu_slave.proofs.slave.Slave.stop.Goals as goal

pub returns-clause-stopped : goal.returns-clause-stopped
unfolding seen
returns-clause-stopped g c =
    let handed = c.send_all-sends.ensures.sends.0 in
    record {
      at = c.begin-at.ensures.at;
      steps = λ openings L h.
          stopped openings c.args.self.now.core c.begin-at.new.self c.send_all-sends.new.core c.stop.new.self _ L c.args.t c.begin-at.result handed
          h c.begin-at.ensures.at c.begin-at.ensures.rest c.send_all-sends.ensures.sends.1 c.stop.ensures;
      sends = (
        handed,
        subst (λ ds. HandsOver g.P.Port c.args.self.now.port c.send_all-sends.new.port ds c.send_all-sends.result.sent c.send_all-sends.result.failed)
            (ap (λ (k : Kept). map (sending_departure k.config k.masters all_ones) handed) c.begin-at.ensures.rest)
            c.send_all-sends.ensures.sends.2,
        λ openings L h.
            stop_states openings c.args.self.now.core c.begin-at.new.self c.send_all-sends.new.core c.stop.new.self _ L c.args.t c.begin-at.result handed
            h c.begin-at.ensures.at c.begin-at.ensures.rest c.send_all-sends.ensures.sends.1 c.stop.ensures,
      );
      judges = refl;
      boxes = refl;
    }
