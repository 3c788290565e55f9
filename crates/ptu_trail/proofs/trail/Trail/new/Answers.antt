use Rattle.ptu_trail.proofs.Judging.{nothing_yet}
use Rattle.ptu_trail.proofs.trail.Trail.new.Goals as goal

pub returns : goal.returns
returns c = nothing_yet c.args.capacity c.new.result c.new-2.result c.new.ensures c.new-2.ensures
