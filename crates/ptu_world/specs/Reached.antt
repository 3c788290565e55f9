-- Which worlds a script reaches.
use Rattle.std.specs.Prelude.{◌≡◌, ℕ, ◌+◌, List, [], ◌∷◌, ◌++◌, map, Option, Some, None, Result, Ok, Err}
use Rattle.ptu_lines.specs.Script.{ScriptLine, Whole, Refused, script_lines}
use Rattle.ptu_script.specs.declared.{cause.Cause.{Cause}, command.Command.{Command}}
use Rattle.ptu_script.specs.Command.{command_of}
use Rattle.ptu_report_lines.specs.declared.report_line.ReportLine.{ReportLine}
use Rattle.ptu_report_lines.specs.declared.report_line.ReportLine.TheVariants.{At}
use Rattle.ptu_report_lines.specs.declared.statement.Statement.{Statement}
use Rattle.ptu_world.specs.World.{World, Stock, Done, opening, step}

-- what a line makes of the world, by what it commands
abbrev pub done_by_line : World → Result (Option Command) Cause → Result Done Cause
done_by_line w (Ok None) = Ok (record { world = w; said = [] })
done_by_line w (Ok (Some command)) = step w command
done_by_line w (Err cause) = Err cause

-- these lines, none of which is refused, lead from one world to another
abbrev pub Leads : World → List ScriptLine → World → Type 0
Leads w [] last = last ≡ w
Leads w (Refused cause ∷ rest) last = ⊥
Leads w (Whole text ∷ rest) last = (done : Done) × (done_by_line w (command_of text) ≡ Ok done) × Leads done.world rest last

-- what is said of them
abbrev pub said_of : (w : World) (lines : List ScriptLine) (last : World) → Leads w lines last → List Statement
said_of w [] last leads = []
said_of w (Refused cause ∷ rest) last leads = []
said_of w (Whole text ∷ rest) last leads = leads.0.said ++ said_of leads.0.world rest last leads.2

-- that, as lines of the report, behind so many lines of the script
abbrev pub lines_said : (before : ℕ) (w : World) (lines : List ScriptLine) (last : World) → Leads w lines last → List ReportLine
lines_said before w [] last leads = []
lines_said before w (Refused cause ∷ rest) last leads = []
lines_said before w (Whole text ∷ rest) last leads = map (At (before + 1)) leads.0.said ++ lines_said (before + 1) leads.0.world rest last leads.2

-- a script reaches a world where a front of its lines leads there from the opening
pub record Reaches (stock : Stock) (script : List ℕ) (w : World) : Type 0 where
  pub taken : List ScriptLine
  pub left : List ScriptLine
  pub lines : script_lines script ≡ taken ++ left
  pub leads : Leads (opening stock) taken w
