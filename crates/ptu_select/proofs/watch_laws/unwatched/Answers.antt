use Rattle.ptu_select.proofs.Watching.{unwatched}
use Rattle.ptu_select.proofs.watch_laws.unwatched.Goals as goal

pub returns : goal.returns
returns c = unwatched
