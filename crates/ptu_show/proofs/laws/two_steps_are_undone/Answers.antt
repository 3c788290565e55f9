use Rattle.ptu_show.proofs.Relation.{undone}
use Rattle.ptu_show.proofs.laws.two_steps_are_undone.Goals as goal

pub returns : goal.returns
returns c = undone
