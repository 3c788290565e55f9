use Rattle.std.proofs.Common.{◌≡◌, ◌∙◌, Bool, true, false, sym}
use Rattle.ptu_daemon.proofs.InTwo.{answered_by}
use Rattle.ptu_run.proofs.daemons.serve_by.Goals as goal

both : {A : Type 0} (b : Bool) → b ≡ true → b ≡ false → A
both b so not_so = absurd (let never : true ≡ false = sym so ∙ not_so in cc)

pub returns-then-settings : goal.returns-then-settings
returns-then-settings g c =
    record {
      answer =
          answered_by g.K.Sink c.args.sink.now c.serve_in_two_steps.new.sink _ _ _ _ _ c.args.settings.now _ _ c.serve_in_two_steps.result
          (λ said served. record { as_they_are = λ one. both c.args.settings.now.two_step c.if-settings.true one; in_two_steps = λ two. served })
          c.serve_in_two_steps.ensures.answer;
    }

pub returns-else-settings : goal.returns-else-settings
returns-else-settings g c =
    record {
      answer =
          answered_by g.K.Sink c.args.sink.now c.serve.new.sink _ _ _ _ _ c.args.settings.now _ _ c.serve.result
          (λ said served. record { as_they_are = λ one. served; in_two_steps = λ two. both c.args.settings.now.two_step two c.if-settings.false })
          c.serve.ensures.answer;
    }
