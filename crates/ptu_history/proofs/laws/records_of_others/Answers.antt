use Rattle.ptu_history.proofs.Decisions.{chain-stranger, earliest-stranger, lawful-stranger, live-stranger, root-stranger, sequence_number-stranger}
use Rattle.ptu_history.proofs.laws.records_of_others.Goals as goal

pub returns : goal.returns
returns _ = search (live-stranger, chain-stranger, earliest-stranger, sequence_number-stranger, root-stranger, lawful-stranger)
