use Rattle.std.proofs.Common.{arith}
use Rattle.ptu_select.proofs.Lasting.{last_all}
use Rattle.ptu_select.proofs.choice.next_change.Goals as goal

pub returns-clause-before : goal.returns-clause-before
returns-clause-before c =
    last_all c.args.t c.loop-master.until c.args.masters.now c.loop-master.master-index (omega (arith, c.loop-master-test.false)) c.loop-master.invariant.1
