use Rattle.ptu_record.specs.Judges.{positions}
use Rattle.ptu_record.proofs.Positions.{top_clear, clear_again, clear_ahead_by, clear_behind_by, top_ahead, top_behind}
use Rattle.ptu_record.proofs.laws.one_sync_more.Goals as goal

pub returns-clause-top : goal.returns-clause-top
returns-clause-top c = λ ns. top_clear (positions ns)

pub returns-clause-again : goal.returns-clause-again
returns-clause-again c = clear_again

pub returns-clause-ahead : goal.returns-clause-ahead
returns-clause-ahead c = clear_ahead_by

pub returns-clause-behind : goal.returns-clause-behind
returns-clause-behind c = clear_behind_by

pub returns-clause-top_ahead : goal.returns-clause-top_ahead
returns-clause-top_ahead c = top_ahead

pub returns-clause-top_behind : goal.returns-clause-top_behind
returns-clause-top_behind c = top_behind
