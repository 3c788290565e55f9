use Rattle.std.proofs.Common.{◌∙◌, refl}
use Rattle.ptu_daemon.specs.Served.{said_by}
use Rattle.ptu_daemon.proofs.serving.serve_rounds.Goals as goal
use Rattle.ptu_daemon.proofs.Finishing.{serves_of}

pub returns : goal.returns
returns g c =
    let made = c.new-gm.ensures in
    let ended = c.close-closed.ensures in
    let counted = c.in_ok-counted.counted in
    serves_of g.P.Port g.C.Clock c.args.settings.now c.args.opened _ c.new-gm.result c.rounds.new.self.gm c.rounds.new.self.event c.rounds.new.self.clock
    counted.1
    (said_by (record {
      rounds = counted.0;
      sent = counted.1.sent;
      failed = counted.1.failed;
      granted = c.close-closed.result.0.granted;
      refused = c.close-closed.result.0.refused;
      held = c.close-closed.result.0.total;
    }))
    (record { domain = c.requires.domain; max_duration = c.requires.max_duration; epoch = c.requires.epoch }) c.requires.capacity (made.config ∙ c.config.ensures) made.ports.0 made.ports.1 made.ports.2 made.ports.3 made.ports.4 made.stands
    c.args.control c.rounds.new.control counted.0 c.in_ok-counted.ensures
    ended.ports.0 ended.ports.1 ended.ports.2 ended.ports.3 ended.ports.4 refl refl refl refl refl refl refl refl refl refl
    (λ opening history stood. let r = ended.rates opening history stood in (r.1, r.2, r.3))
