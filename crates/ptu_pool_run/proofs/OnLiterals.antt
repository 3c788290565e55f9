-- What an answer unfolds to compute the reader of commands on a literal.
use Rattle.std.specs.Prelude.{⊤}
use Rattle.ptu_script.specs.Command.{grandmaster_in}
use Rattle.ptu_pool_run.specs.Command.{pool_command_of, pool_fields_in}

unfoldable pub pools_on_literals : ⊤
unfolding grandmaster_in pool_command_of pool_fields_in
pools_on_literals = tt
