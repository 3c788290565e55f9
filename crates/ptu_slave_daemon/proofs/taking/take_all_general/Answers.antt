use Rattle.std.proofs.Common.{◌+◌, ◌≡◌, arith}
use Rattle.ptu_slave.specs.Seen.{seen}
use Rattle.ptu_slave_daemon.specs.Running.{RoundTook, TookOne}
use Rattle.ptu_slave_daemon.proofs.Arrived.{CameSoFar, general_more, general_none, round_full, round_short, so_far_more}
use Rattle.ptu_slave_daemon.proofs.taking.take_all_general.Goals as goal

pub loop-taken-init : goal.loop-taken-init
loop-taken-init g c = record {
  grows = (omega arith, omega arith);
  took = general_none g.P.Port g.C.Clock (seen (λ j. (goal.Judge-dyn g (j.vtable, j.value)).Judge.held j.value) c.args.slave.now) c.args.clock.now c.args.counts.now;
}

pub loop-taken-preserved : goal.loop-taken-preserved
loop-taken-preserved g c = record {
  grows = (omega (arith, c.loop-taken.invariant.grows, c.take_general.ensures.grows), omega (arith, c.loop-taken.invariant.grows, c.take_general.ensures.grows));
  took = general_more g.P.Port g.C.Clock (CameSoFar c.loop-taken._taken) (TookOne _) (CameSoFar (c.loop-taken._taken + 1))
      (seen (λ j. (goal.Judge-dyn g (j.vtable, j.value)).Judge.held j.value) c.args.slave.now) (seen (λ j. (goal.Judge-dyn g (j.vtable, j.value)).Judge.held j.value) c.loop-taken.slave) (seen (λ j. (goal.Judge-dyn g (j.vtable, j.value)).Judge.held j.value) c.take_general.new.slave) c.args.clock.now c.loop-taken.clock c.take_general.new.clock c.args.counts.now c.loop-taken.counts c.take_general.new.counts
      (so_far_more c.loop-taken._taken _ _ _ _ _ _ _ c.if-not-branch.false) c.loop-taken.invariant.took c.in_ok-take_general.ensures.took;
}

pub returns-then-not-branch-clause-took : goal.returns-then-not-branch-clause-took
returns-then-not-branch-clause-took g c =
    general_more g.P.Port g.C.Clock (CameSoFar c.loop-taken._taken) (TookOne _) RoundTook
    (seen (λ j. (goal.Judge-dyn g (j.vtable, j.value)).Judge.held j.value) c.args.slave.now) (seen (λ j. (goal.Judge-dyn g (j.vtable, j.value)).Judge.held j.value) c.loop-taken.slave) (seen (λ j. (goal.Judge-dyn g (j.vtable, j.value)).Judge.held j.value) c.take_general.new.slave) c.args.clock.now c.loop-taken.clock c.take_general.new.clock c.args.counts.now c.loop-taken.counts c.take_general.new.counts
    (round_short c.loop-taken._taken _ _ _ _ _ _ _ c.loop-taken-test.true c.if-not-branch.true) c.loop-taken.invariant.took c.in_ok-take_general.ensures.took

pub returns-clause-took : goal.returns-clause-took
returns-clause-took g c = λ node L h.
    let p = c.loop-taken.invariant.took node L h in
    let all : c.loop-taken._taken ≡ 64 = omega (arith, c.loop-taken-test.false, c.loop-taken.auto._taken-end) in
    (p.0, p.1, p.2, p.3, p.4, round_full c.loop-taken._taken _ _ _ _ all p.0 p.3 p.5, p.6)
