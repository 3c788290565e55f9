use Rattle.std.proofs.Common.{refl}
use Rattle.std.specs.Fmt.{digits}
use Rattle.ptu_script.specs.Command.{grandmaster_in}
use Rattle.ptu_pool_run.specs.{Command.{pool_command_of, pool_fields_in}, Poured.{told_in}, Reading.{pool_rules}}
use Rattle.ptu_pool_run.proofs.examples.refused_pools.Goals as goal

pub returns : goal.returns
unfolding digits grandmaster_in pool_command_of pool_fields_in told_in pool_rules
returns c = record { over = refl; net = refl; overlap = refl }
