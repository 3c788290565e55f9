use Rattle.std.proofs.Common.{◌∙◌, sym}
use Rattle.ptu_daemon.proofs.InTwo.{answered_by, in_two}
use Rattle.ptu_daemon.proofs.two_steps.serve_in_two_steps.Goals as goal

pub returns : goal.returns
returns g c =
    let same = sym c.new-two.ensures.same ∙ sym c.serve.ensures.name in
    record {
      answer =
          answered_by g.K.Sink c.args.sink.now c.serve.new.sink _ _ _ _ _ c.args.settings.now _ _ c.serve.result
          (λ said. in_two _ _ c.args.settings.now _ _ _ _ c.serve.new.host.flags c.serve.new.host.is_control_flagged said)
          (rw (c.host-1.given.1 same, ← c.new-two.ensures.host) c.serve.ensures.answer);
    }
