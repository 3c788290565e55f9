use Rattle.ptu_trail.proofs.Accounts.{stranger_fault}
use Rattle.ptu_trail.proofs.laws.messages.Goals as goal

pub returns-clause-stranger : goal.returns-clause-stranger
returns-clause-stranger c = stranger_fault
