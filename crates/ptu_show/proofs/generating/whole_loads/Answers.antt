use Rattle.ptu_show.proofs.Whole.{whole_load}
use Rattle.ptu_show.proofs.generating.whole_loads.Goals as goal

pub returns : goal.returns
returns c = whole_load
