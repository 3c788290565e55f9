use Rattle.ptu_laws.proofs.Promises.{core_keeps}
use Rattle.ptu_laws.proofs.laws.promises.Goals as goal

pub returns : goal.returns
returns _ = search core_keeps
