use Rattle.ptu_select.proofs.Masters.{unwatched_by}
use Rattle.ptu_select.proofs.laws.unwatched.Goals as goal

pub returns : goal.returns
returns c = unwatched_by
