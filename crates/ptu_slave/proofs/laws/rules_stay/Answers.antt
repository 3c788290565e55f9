use Rattle.ptu_slave.proofs.Staying.{rules_stay}
use Rattle.ptu_slave.proofs.laws.rules_stay.Goals as goal

pub returns : goal.returns
returns c = rules_stay
