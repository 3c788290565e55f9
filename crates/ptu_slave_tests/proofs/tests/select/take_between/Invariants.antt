use Rattle.std.proofs.Common.{◌≡◌, length}
use Rattle.ptu_slave_tests.proofs.tests.select.take_between.Given as goal

abbrev pub invariant-loop-pair : goal.invariant-loop-pair
invariant-loop-pair g l = length l.selector ≡ l.fn.masters
