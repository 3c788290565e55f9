use Rattle.std.proofs.Common.{◌+◌, ◌≡◌, ◌∙◌, arith, refl}
use Rattle.ptu_slave.specs.Seen.{seen}
use Rattle.ptu_slave_daemon.specs.Running.{RoundTook, TookOne}
use Rattle.ptu_slave_daemon.proofs.Arrived.{CameSoFar, event_more, event_none, round_full, round_short, so_far_more}
use Rattle.ptu_slave_daemon.proofs.taking.take_all_event.Goals as goal

pub loop-taken-init : goal.loop-taken-init
loop-taken-init g c = record {
  grows = (omega arith, omega arith);
  waiting = refl;
  sent = refl;
  took = event_none g.P.Port g.C.Clock (seen (λ j. (goal.Judge-dyn g (j.vtable, j.value)).Judge.held j.value) c.args.slave.now) c.args.clock.now c.args.event.now c.args.counts.now;
}

pub loop-taken-preserved : goal.loop-taken-preserved
loop-taken-preserved g c = record {
  grows = (omega (arith, c.loop-taken.invariant.grows, c.take_event.ensures.grows), omega (arith, c.loop-taken.invariant.grows, c.take_event.ensures.grows));
  waiting = c.take_event.ensures.waiting ∙ c.loop-taken.invariant.waiting;
  sent = c.take_event.ensures.sent ∙ c.loop-taken.invariant.sent;
  took = event_more g.P.Port g.C.Clock (CameSoFar c.loop-taken._taken) (TookOne _) (CameSoFar (c.loop-taken._taken + 1))
      (seen (λ j. (goal.Judge-dyn g (j.vtable, j.value)).Judge.held j.value) c.args.slave.now) (seen (λ j. (goal.Judge-dyn g (j.vtable, j.value)).Judge.held j.value) c.loop-taken.slave) (seen (λ j. (goal.Judge-dyn g (j.vtable, j.value)).Judge.held j.value) c.take_event.new.slave) c.args.clock.now c.loop-taken.clock c.take_event.new.clock c.args.counts.now c.loop-taken.counts c.take_event.new.counts c.args.event.now c.loop-taken.event c.take_event.new.event
      (so_far_more c.loop-taken._taken _ _ _ _ _ _ _ c.if-not-branch.false) c.loop-taken.invariant.took c.in_ok-take_event.ensures.took;
}

pub returns-then-not-branch-clause-took : goal.returns-then-not-branch-clause-took
returns-then-not-branch-clause-took g c =
    event_more g.P.Port g.C.Clock (CameSoFar c.loop-taken._taken) (TookOne _) RoundTook
    (seen (λ j. (goal.Judge-dyn g (j.vtable, j.value)).Judge.held j.value) c.args.slave.now) (seen (λ j. (goal.Judge-dyn g (j.vtable, j.value)).Judge.held j.value) c.loop-taken.slave) (seen (λ j. (goal.Judge-dyn g (j.vtable, j.value)).Judge.held j.value) c.take_event.new.slave) c.args.clock.now c.loop-taken.clock c.take_event.new.clock c.args.counts.now c.loop-taken.counts c.take_event.new.counts c.args.event.now c.loop-taken.event c.take_event.new.event
    (round_short c.loop-taken._taken _ _ _ _ _ _ _ c.loop-taken-test.true c.if-not-branch.true) c.loop-taken.invariant.took c.in_ok-take_event.ensures.took

pub returns-clause-took : goal.returns-clause-took
returns-clause-took g c = λ node L h.
    let p = c.loop-taken.invariant.took node L h in
    let all : c.loop-taken._taken ≡ 64 = omega (arith, c.loop-taken-test.false, c.loop-taken.auto._taken-end) in
    (p.0, p.1, p.2, p.3, p.4, p.5, round_full c.loop-taken._taken _ _ _ _ all p.0 p.3 p.6, p.7)
