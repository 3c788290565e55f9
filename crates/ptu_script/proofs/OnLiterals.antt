-- What an answer unfolds to compute the reader of commands on a literal.
use Rattle.std.specs.Prelude.{⊤}
use Rattle.ptu_script.specs.Command.{command_of, fields_in, grandmaster_in, slave_in}

unfoldable pub commands_on_literals : ⊤
unfolding command_of fields_in grandmaster_in slave_in
commands_on_literals = tt
