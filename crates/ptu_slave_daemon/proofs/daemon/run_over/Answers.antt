use Rattle.std.proofs.{Common.{[], ◌∙◌, Err, ap}, lemmas.Result.{err_from_is_err_and}}
use Rattle.ptu_outside.proofs.Putting.{HasPutPart-none}
use Rattle.ptu_slave.specs.Seen.{seen}
use Rattle.ptu_slave_daemon.specs.Opening.{node_of}
use Rattle.ptu_slave_daemon.proofs.Ended.{aside_of, given_back, has_served_by, has_stopped}
use Rattle.ptu_slave_daemon.proofs.daemon.run_over.Goals as goal
use Rattle.ptu_slave_daemon.proofs.daemon.run_over.Goals.{in-Ok, in-Err+in-Write}

pub returns-in_err-slave-clause-stopped : goal.returns-in_err-slave-clause-stopped
returns-in_err-slave-clause-stopped g c =
    let p = err_from_is_err_and c.from_residual.result c.from_residual.ensures.1 in
    rw p.1 ([], 0, 0, HasPutPart-none g.K.Sink.written g.K.Sink.handed c.args.sink.now _)

pub returns-clause-served : goal.returns-clause-served
returns-clause-served g c =
    elim c.match-answer.branch [
      | in-Ok w ↦
          let d = rw c.all_rounds.ensures.value at w.in-Ok.ensures.done in
          rw w.written-is
          (has_served_by g.P.Port g.C.Clock g.K.Sink.written g.K.Sink.handed c.args.settings.now c.args.opened
          (given_back c.args.opened c.into_port.result c.run-answer.new.event c.run-answer.new.clock)
          c.args.sink.now c.run-answer.new.sink (seen (λ j. (goal.Judge-dyn g (j.vtable, j.value)).Judge.held j.value) c.in_ok-slave.slave).kept (seen (λ j. (goal.Judge-dyn g (j.vtable, j.value)).Judge.held j.value) c.run-answer.new.slave).kept _ _ (seen (λ j. (goal.Judge-dyn g (j.vtable, j.value)).Judge.held j.value) c.in_ok-slave.slave).port (seen (λ j. (goal.Judge-dyn g (j.vtable, j.value)).Judge.held j.value) c.run-answer.new.slave).port d.0 d.1 d.2
          (aside_of g.P.Port.sent c.args.opened c.into_port.result c.run-answer.new.event c.run-answer.new.clock c.run-answer.ensures.sent)
          c.in_ok-slave.ensures.port c.into_port.ensures d.3 (d.4 (node_of c.args.settings.now) [] c.in_ok-slave.ensures.stands))
      | in-Err+in-Write w ↦ rw w.written-is tt
    ]

pub returns-clause-front : goal.returns-clause-front
returns-clause-front g c =
    elim c.match-answer.branch [
      | in-Ok w ↦ rw w.written-is tt
      | in-Err+in-Write w ↦
          let is = w.in-Err.is ∙ ap Err w.in-Write.is in
          let d = rw c.all_rounds.ensures.value at (c.run-answer.ensures.stopped is) in
          rw w.written-is
          (has_stopped g.P.Port g.C.Clock g.K.Sink.written g.K.Sink.handed c.args.settings.now c.args.opened
          (given_back c.args.opened c.into_port.result c.run-answer.new.event c.run-answer.new.clock)
          c.args.sink.now c.run-answer.new.sink (seen (λ j. (goal.Judge-dyn g (j.vtable, j.value)).Judge.held j.value) c.in_ok-slave.slave).kept (seen (λ j. (goal.Judge-dyn g (j.vtable, j.value)).Judge.held j.value) c.run-answer.new.slave).kept
          (seen (λ j. (goal.Judge-dyn g (j.vtable, j.value)).Judge.held j.value) c.in_ok-slave.slave).judges (seen (λ j. (goal.Judge-dyn g (j.vtable, j.value)).Judge.held j.value) c.run-answer.new.slave).judges (seen (λ j. (goal.Judge-dyn g (j.vtable, j.value)).Judge.held j.value) c.in_ok-slave.slave).port (seen (λ j. (goal.Judge-dyn g (j.vtable, j.value)).Judge.held j.value) c.run-answer.new.slave).port d.0
          (aside_of g.P.Port.sent c.args.opened c.into_port.result c.run-answer.new.event c.run-answer.new.clock c.run-answer.ensures.sent)
          c.in_ok-slave.ensures.port c.into_port.ensures d.1 (d.2 (node_of c.args.settings.now) [] c.in_ok-slave.ensures.stands))
    ]
