-- The command line, and what its words ask for.
use Rattle.std.specs.Prelude.{◌≢◌, ◌⊎◌, ◌≤◌, Bool, true, false, not, ◌&&◌, ◌||◌, is_some, IsTrue, if◌then◌else◌, List, [], ◌∷◌, codes, Option, Some, None, option_and_then, option_map}
use Rattle.std.specs.Str.{bytes_eq}
use Rattle.clap.specs.Words.{App, Kinds, Row, Text, fault_of, first_of, new_app, new_rule, subcommand_of, with_rule, with_subcommand}
use Rattle.ptu_units.specs.Limits.{IsCapacity, greatest_capacity, least_capacity}
use Rattle.ptu_lines.specs.Words.{number_within}
use Rattle.ptu_run.specs.declared.command.Command.{Command}
use Rattle.ptu_run.specs.declared.command.Command.TheVariants.{Replay, Show, Load, Serve, Slave, Join, Audit, Pools}

-- the program, whose words begin behind its name, with a required subcommand
abbrev pub program : App
program =
    record (new_app (codes "ptpuni")) {
      top = record (new_app (codes "ptpuni")).top { no_binary_name = true; subcommand_required = true; disable_help_subcommand = true };
    }

-- a subcommand of this name with one value, which is required
abbrev pub numbered_line : Text → App
numbered_line name = with_rule (new_app name) (record (new_rule (codes "N")) { required = true })

-- `load` has one, and so has `audit`
abbrev pub load_line : App
load_line = numbered_line (codes "load")

abbrev pub audit_line : App
audit_line = numbered_line (codes "audit")

-- with a subcommand of this name, without arguments of its own
abbrev pub with_bare : App → Text → App
with_bare line name = with_subcommand line (new_app name).top

-- its command line: a subcommand for each command, without further arguments
abbrev pub command_line : App
command_line =
    with_bare (with_subcommand (with_bare (with_bare (with_bare
    (with_subcommand (with_bare (with_bare program (codes "replay")) (codes "show")) load_line.top)
    (codes "serve")) (codes "slave")) (codes "join")) audit_line.top) (codes "pools")

-- a load of the number that the value writes, from 1 to 2000
abbrev pub load_of : Option Text → Option Command
load_of None = None
load_of (Some value) = option_map Load (number_within value 1 2000)

-- an audit with the capacity that the value writes
abbrev pub audit_of : Option Text → Option Command
audit_of None = None
audit_of (Some value) = option_map Audit (number_within value least_capacity greatest_capacity)

-- where it has a number, that is in its range
abbrev pub IsCommandLineInRange : Command → Type 0
IsCommandLineInRange Replay = Unit {0}
IsCommandLineInRange Show = Unit {0}
IsCommandLineInRange (Load number) = (1 ≤ number) × (number ≤ 2000)
IsCommandLineInRange Serve = Unit {0}
IsCommandLineInRange Slave = Unit {0}
IsCommandLineInRange Join = Unit {0}
IsCommandLineInRange (Audit capacity) = IsCapacity capacity
IsCommandLineInRange Pools = Unit {0}

-- the command of a name, with this value
abbrev pub command_named : Text → Option Text → Option Command
command_named name value =
    if bytes_eq name (codes "replay") then Some Replay
    else if bytes_eq name (codes "show") then Some Show
    else if bytes_eq name (codes "load") then load_of value
    else if bytes_eq name (codes "serve") then Some Serve
    else if bytes_eq name (codes "slave") then Some Slave
    else if bytes_eq name (codes "join") then Some Join
    else if bytes_eq name (codes "audit") then audit_of value
    else if bytes_eq name (codes "pools") then Some Pools
    else None

-- that of a subcommand with these arguments
abbrev pub words_command_by : Text × List Row → Option Command
words_command_by (name, rows) = command_named name (first_of (codes "N") rows)

abbrev pub command_after : Kinds → Option (Text × List Row) → Option Command
command_after [] subcommand = option_and_then words_command_by subcommand
command_after (fault ∷ faults) subcommand = None

-- the command that the words ask for, where the command line matches them
unfoldable pub words_command_of : List Text → Option Command
words_command_of words = command_after (fault_of command_line words) (subcommand_of command_line words)

-- a load of no number in the range, or an audit of none
abbrev pub is_out_of_range : Option (Text × List Row) → Bool
is_out_of_range None = false
is_out_of_range (Some (name, rows)) =
    (bytes_eq name (codes "load") && not (is_some (load_of (first_of (codes "N") rows))))
    || (bytes_eq name (codes "audit") && not (is_some (audit_of (first_of (codes "N") rows))))

-- the command line does not match the words, or it does, and they ask for a load or an audit of no number in the range
abbrev pub AreWordsRefused : List Text → Type 0
AreWordsRefused words = (fault_of command_line words ≢ []) ⊎ IsTrue (is_out_of_range (subcommand_of command_line words))
