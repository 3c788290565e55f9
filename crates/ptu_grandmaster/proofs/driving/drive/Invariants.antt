use Rattle.std.proofs.Common.{take}
use Rattle.ptu_grandmaster.proofs.Followed.{Follows}
use Rattle.ptu_grandmaster.proofs.driving.drive.Given as goal

abbrev pub invariant-loop-event : goal.invariant-loop-event
invariant-loop-event g l = Follows l.fn.config l.fn.capacity (take l.event-index l.events) l.gm l.sent
