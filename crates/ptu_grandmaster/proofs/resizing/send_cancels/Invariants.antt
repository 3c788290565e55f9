use Rattle.std.proofs.Common.{take}
use Rattle.ptu_grandmaster.proofs.Cancelling.{Cancels}
use Rattle.ptu_grandmaster.proofs.resizing.send_cancels.Given as goal

abbrev pub invariant-loop-grant : goal.invariant-loop-grant
invariant-loop-grant g l = Cancels g.P.Port l.config l.first (take l.grant-index l.shed) l.initial.port l.port l.sequence l.sends.sent l.sends.failed
