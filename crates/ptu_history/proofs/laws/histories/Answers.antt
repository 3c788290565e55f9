use Rattle.ptu_history.proofs.Histories.{history-event, history-none, outcomes-event, outcomes-none}
use Rattle.ptu_history.proofs.laws.histories.Goals as goal

pub returns : goal.returns
returns _ = search (history-none, history-event, outcomes-none, outcomes-event)
