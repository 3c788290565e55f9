use Rattle.std.proofs.Common.{◌-◌, length}
use Rattle.ptu_nodes.proofs.HandedOver.{IsSoFar}
use Rattle.ptu_nodes.proofs.journal.Journal.hand_over_each.Given as goal

abbrev pub invariant-datagrams : goal.invariant-datagrams
invariant-datagrams l = IsSoFar l.ip l.port.sent l.before l.initial.self l.self

abbrev pub decreases-datagrams : goal.decreases-datagrams
decreases-datagrams l = length l.port.sent - (length l.self.sent - l.before)
