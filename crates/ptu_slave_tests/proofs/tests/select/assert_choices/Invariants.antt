use Rattle.std.proofs.Common.{◌≡◌, length}
use Rattle.ptu_slave_tests.proofs.tests.select.assert_choices.Given as goal

abbrev pub invariant-loop-nanos : goal.invariant-loop-nanos
invariant-loop-nanos g l = length l.kept ≡ length l.fn.priorities
