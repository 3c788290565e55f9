use Rattle.std.proofs.Common.{◌≡◌}
use Rattle.ptu_slave.specs.Seen.{seen}
use Rattle.ptu_slave_daemon.specs.Running.{CountsGrow, TookEvent}
use Rattle.ptu_slave_daemon.proofs.Arrived.{CameSoFar}
use Rattle.ptu_slave_daemon.proofs.taking.take_all_event.Given as goal

abbrev pub invariant-loop-taken : goal.invariant-loop-taken
invariant-loop-taken g l = record {
  grows : CountsGrow l._taken l.fn.counts l.counts;
  waiting : g.P.Port.waiting (seen (λ j. (goal.Judge-dyn g (j.vtable, j.value)).Judge.held j.value) l.slave).port ≡ g.P.Port.waiting (seen (λ j. (goal.Judge-dyn g (j.vtable, j.value)).Judge.held j.value) l.fn.slave).port;
  sent : g.P.Port.sent l.event ≡ g.P.Port.sent l.fn.event;
  took : TookEvent g.P.Port g.C.Clock (seen (λ j. (goal.Judge-dyn g (j.vtable, j.value)).Judge.held j.value) l.fn.slave) (seen (λ j. (goal.Judge-dyn g (j.vtable, j.value)).Judge.held j.value) l.slave) l.fn.clock l.clock l.fn.event l.event (CameSoFar l._taken) l.fn.counts l.counts;
}
