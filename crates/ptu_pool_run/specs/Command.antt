-- What a line of a script of pools commands, or why it is refused. The forms are the project's own choice.
use Rattle.std.specs.Prelude.{◌≡◌, ℕ, if◌then◌else◌, List, Option, Some, None, Result, Ok, Err}
use Rattle.ptu_lines.specs.Words.{ip_of, octets_of}
use Rattle.ptu_lines.specs.declared.cause.LineCause.{LineCause}
use Rattle.ptu_script.specs.Fields.{◌>>=◌, capacity_of, field, from_to}
use Rattle.ptu_script.specs.{Command.{grandmaster_in, is_comment, moment_of}, Verb.{verb_in}}
use Rattle.ptu_pool_run.specs.declared.command.PoolCommand.{PoolCommand}
use Rattle.ptu_pool_run.specs.declared.command.PoolCommand.TheVariants as commands
use Rattle.ptu_pool_run.specs.declared.verb.PoolVerb.{PoolVerb}
use Rattle.ptu_pool_run.specs.declared.verb.PoolVerb.TheVariants.{Gm, Pool, Rx, Turn}
use Rattle.ptu_pool_run.specs.Verb.{is_pool_counted, pool_verb_name, pool_verbs}

-- T IP
abbrev pub pool_moment_in : List ℕ → Result (ℕ × ℕ) LineCause
pool_moment_in line = do
  at ← field 2 moment_of line
  from ← field 3 ip_of line
  Ok (at, from)

-- what stands behind the first word, by the form of its line
unfoldable pub pool_fields_in : PoolVerb → List ℕ → Result PoolCommand LineCause
pool_fields_in Gm line = do
  setup ← grandmaster_in line
  Ok (commands.Grandmaster setup)
pool_fields_in Pool line = do
  net ← field 2 ip_of line
  bits ← field 3 (from_to 0 32) line
  capacity ← field 4 capacity_of line
  Ok (commands.Sell (record { net = net; bits = bits; capacity = capacity }))
pool_fields_in Rx line = do
  at ← field 2 moment_of line
  from ← field 3 ip_of line
  octets ← field 4 octets_of line
  Ok (commands.Receive at from octets)
pool_fields_in Turn line = do
  at ← field 2 moment_of line
  pool ← field 3 (from_to 1 16) line
  table ← field 4 (from_to 0 3) line
  Ok (commands.Turn at pool table)

-- the command of a line that is no comment
abbrev pub pool_command_in : List ℕ → Result PoolCommand LineCause
pool_command_in line = do
  verb ← verb_in pool_verbs pool_verb_name is_pool_counted line
  pool_fields_in verb line

-- what a line commands, where it commands anything, or why it is refused
unfoldable pub pool_command_of : List ℕ → Result (Option PoolCommand) LineCause
pool_command_of line =
    if is_comment line then Ok None
    else do
      command ← pool_command_in line
      Ok (Some command)

-- a line is refused for this cause
abbrev pub IsPoolLineRefused : List ℕ → LineCause → Type 0
IsPoolLineRefused line cause = pool_command_of line ≡ Err cause
