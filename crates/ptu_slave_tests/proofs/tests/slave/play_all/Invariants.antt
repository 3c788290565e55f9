use Rattle.std.proofs.Common.{◌≡◌}
use Rattle.ptu_slave.specs.Seen.{seen}
use Rattle.ptu_slave_tests.proofs.tests.slave.play_all.Given as goal

abbrev pub invariant-loop-nanos : goal.invariant-loop-nanos
invariant-loop-nanos g l =
    (seen (λ j. (goal.Judge-dyn g (j.vtable, j.value)).Judge.held j.value) l.slave).kept.masters ≡ (seen (λ j. (goal.Judge-dyn g (j.vtable, j.value)).Judge.held j.value) l.fn.slave).kept.masters
