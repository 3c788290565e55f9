use Rattle.ptu_requester.proofs.Silence.{stands_silent}
use Rattle.ptu_requester.proofs.laws.other_entries.Goals as goal

pub returns-clause-stands : goal.returns-clause-stands
returns-clause-stands c = stands_silent
