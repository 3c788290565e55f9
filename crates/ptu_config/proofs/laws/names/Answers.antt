use Rattle.ptu_config.proofs.KeyNames.{apart}
use Rattle.ptu_config.proofs.laws.names.Goals as goal

pub returns-clause-apart : goal.returns-clause-apart
returns-clause-apart c = apart
