use Rattle.ptu_daemon.proofs.Halves.{whole_cancels, whole_replies, whole_sends}
use Rattle.ptu_daemon.proofs.laws.sends_no_half.Goals as goal

pub returns-clause-events : goal.returns-clause-events
returns-clause-events c = whole_sends

pub returns-clause-replies : goal.returns-clause-replies
returns-clause-replies c = whole_replies

pub returns-clause-cancels : goal.returns-clause-cancels
returns-clause-cancels c = whole_cancels
