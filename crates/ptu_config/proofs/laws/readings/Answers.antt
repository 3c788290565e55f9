use Rattle.ptu_config.proofs.Readings.{one_reading, whole}
use Rattle.ptu_config.proofs.laws.readings.Goals as goal

pub returns-clause-one_reading : goal.returns-clause-one_reading
returns-clause-one_reading c = one_reading

pub returns-clause-whole : goal.returns-clause-whole
returns-clause-whole c = whole
