use Rattle.ptu_laws.proofs.Bounds.{moments-handed}
use Rattle.ptu_laws.proofs.laws.moments_within_handed.Goals as goal

pub returns : goal.returns
returns _ = record { within = moments-handed }
