use Rattle.ptu_requester.proofs.Stops.{stop_lifted, all_cancels-next, all_cancels-before}
use Rattle.ptu_requester.proofs.laws.stop.Goals as goal

pub returns : goal.returns
returns _ = search (stop_lifted, all_cancels-next, all_cancels-before)
