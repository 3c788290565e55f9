use Rattle.ptu_daemon.proofs.Asked.{commands_nothing}
use Rattle.ptu_daemon.proofs.command_laws.other_ports_command_nothing.Goals as goal

pub returns : goal.returns
returns c = commands_nothing
