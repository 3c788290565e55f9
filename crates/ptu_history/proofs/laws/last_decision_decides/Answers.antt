use Rattle.ptu_history.proofs.Decisions.{live-ended, live-granted, live-shed, live-undecided}
use Rattle.ptu_history.proofs.laws.last_decision_decides.Goals as goal

pub returns : goal.returns
returns _ = search (live-granted, live-ended, live-shed, live-undecided)
