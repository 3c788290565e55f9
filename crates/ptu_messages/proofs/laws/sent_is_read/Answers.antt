use Rattle.ptu_messages.proofs.Sending.{fixed_is_read, signaling_is_read}
use Rattle.ptu_messages.proofs.laws.sent_is_read.Goals as goal

pub returns-clause-fixed : goal.returns-clause-fixed
returns-clause-fixed c = fixed_is_read

pub returns-clause-signalings : goal.returns-clause-signalings
returns-clause-signalings c = signaling_is_read
