use Rattle.ptu_show.proofs.Relation.{found, joins}
use Rattle.ptu_show.proofs.laws.joining_is_relation.Goals as goal

pub returns : goal.returns
returns c = λ halves half before. (found halves half before, joins halves half before)
