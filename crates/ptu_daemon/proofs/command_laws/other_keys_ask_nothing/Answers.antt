use Rattle.ptu_daemon.proofs.Asked.{other_key}
use Rattle.ptu_daemon.proofs.command_laws.other_keys_ask_nothing.Goals as goal

pub returns : goal.returns
returns c = other_key
