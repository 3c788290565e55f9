use Rattle.std.proofs.Common.{◌<◌, take}
use Rattle.ptu_select.proofs.Lasting.{Last}
use Rattle.ptu_select.proofs.choice.next_change.Given as goal

abbrev pub invariant-loop-master : goal.invariant-loop-master
invariant-loop-master l = (l.t < l.until) × Last l.t l.until (take l.master-index l.masters)
