-- At which moments a grandmaster of a script takes the turns that the lines hand it.
use Rattle.std.specs.Prelude.{ℕ, ◌==◌, ◌&&◌, if◌then◌else◌, List, [], ◌∷◌, ◌++◌, Option, Some, Result, Ok}
use Rattle.ptu_history.specs.{Core.{core_moment}, Events.{Turn}}
use Rattle.ptu_lines.specs.Script.{ScriptLine, Whole, Refused}
use Rattle.ptu_script.specs.declared.{cause.Cause.{Cause}, command.Command.{Command}}
use Rattle.ptu_script.specs.declared.act.Act.TheVariants as acts
use Rattle.ptu_script.specs.declared.command.Command.TheVariants as commands
use Rattle.ptu_script.specs.Command.{command_of}
use Rattle.ptu_world.specs.Deeds.{Node, IsGrandmaster}
use Rattle.ptu_world.specs.World.{World, node_at}
use Rattle.ptu_world.specs.Reached.{Leads}

-- at which a node takes a turn of the table that it is handed at this moment
abbrev pub turn_taken : ℕ → ℕ → Option Node → List ℕ
turn_taken t table (Some (IsGrandmaster g)) = core_moment g.past t (Turn table) ∷ []
turn_taken t table _ = []

-- at which the node at the address takes a turn of the table by this command
abbrev pub turn_by : ℕ → ℕ → World → Command → List ℕ
turn_by ip table w (commands.Event t a (acts.Turn i)) = if a == ip && i == table then turn_taken t table (node_at w.nodes ip) else []
turn_by ip table w _ = []

-- by a line, of what it commands
abbrev pub turn_by_line : ℕ → ℕ → World → Result (Option Command) Cause → List ℕ
turn_by_line ip table w (Ok (Some command)) = turn_by ip table w command
turn_by_line ip table w _ = []

-- by these lines, which lead from one world to another, in order
abbrev pub turns_of : (ip table : ℕ) (w : World) (lines : List ScriptLine) (last : World) → Leads w lines last → List ℕ
turns_of ip table w [] last leads = []
turns_of ip table w (Refused cause ∷ rest) last leads = []
turns_of ip table w (Whole text ∷ rest) last leads = turn_by_line ip table w (command_of text) ++ turns_of ip table leads.0.world rest last leads.2
