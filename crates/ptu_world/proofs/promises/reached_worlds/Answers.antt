use Rattle.ptu_world.proofs.Reporting.{end_reached, none_taken}
use Rattle.ptu_world.proofs.promises.reached_worlds.Goals as goal

pub returns : goal.returns
returns _ = record { opening = none_taken; last = end_reached }
