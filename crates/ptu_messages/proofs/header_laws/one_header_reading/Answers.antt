use Rattle.ptu_messages.proofs.HeaderReadings.{one_or_other}
use Rattle.ptu_messages.proofs.header_laws.one_header_reading.Goals as goal

pub returns-clause-one_or_other : goal.returns-clause-one_or_other
returns-clause-one_or_other c = one_or_other
