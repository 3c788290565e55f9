use Rattle.ptu_history.proofs.Held.{force-before, force-now, held-before, held-now}
use Rattle.ptu_history.proofs.laws.held_over_time.Goals as goal

pub returns : goal.returns
returns _ = search (held-now, held-before, force-now, force-before)
