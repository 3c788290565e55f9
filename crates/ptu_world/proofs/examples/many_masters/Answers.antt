use Rattle.std.proofs.Common.{refl}
use Rattle.std.specs.Fmt.{digits}
use Rattle.ptu_script.specs.Command.{grandmaster_in, slave_in, fields_in, command_of}
use Rattle.ptu_world.specs.World.{step}
use Rattle.ptu_world.proofs.examples.many_masters.Goals as goal

pub returns : goal.returns
unfolding digits grandmaster_in slave_in fields_in command_of step
returns c = refl
