use Rattle.ptu_config.proofs.Heeded.{heeded, ended}
use Rattle.ptu_config.proofs.command_examples.keys.Goals as goal

pub returns-clause-heeded : goal.returns-clause-heeded
returns-clause-heeded c = heeded

pub returns-clause-ended : goal.returns-clause-ended
returns-clause-ended c = ended
