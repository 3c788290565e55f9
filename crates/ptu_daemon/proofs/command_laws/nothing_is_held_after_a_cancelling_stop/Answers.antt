use Rattle.ptu_daemon.proofs.Asked.{cancelling_stop}
use Rattle.ptu_daemon.proofs.command_laws.nothing_is_held_after_a_cancelling_stop.Goals as goal

pub returns : goal.returns
returns c = cancelling_stop
