-- The world at the end of a script.
use Rattle.std.specs.Prelude.{◌≡◌, ℕ, List, [], ◌∷◌, ◌++◌, length, Option, Some, None, Result, Ok, Err}
use Rattle.ptu_lines.specs.Script.{ScriptLine, Whole, Refused, script_lines}
use Rattle.ptu_report.specs.declared.ending.Ending.{Ending}
use Rattle.ptu_report.specs.declared.ending.Ending.TheVariants as endings
use Rattle.ptu_report_lines.specs.declared.report_line.ReportLine.{ReportLine}
use Rattle.ptu_report_lines.specs.declared.report_line.ReportLine.TheVariants.{At, End}
use Rattle.ptu_report_lines.specs.declared.statement.Statement.TheVariants.{Bad}
use Rattle.ptu_script.specs.declared.{cause.Cause.{Cause}, command.Command.{Command}}
use Rattle.ptu_script.specs.Command.{command_of}
use Rattle.ptu_world.specs.World.{World, Stock, Done, opening, step}
use Rattle.ptu_world.specs.Report.{Course, granted_count, report_lines, short_count}

-- the world that a command leads on to; where it is refused, that before it
abbrev pub world_by : World → Result Done Cause → (World → World) → World
world_by w (Ok done) later = later done.world
world_by w (Err cause) later = w

-- the same of a line, by what it commands
abbrev pub world_by_line : World → Result (Option Command) Cause → (World → World) → World
world_by_line w (Ok None) later = later w
world_by_line w (Ok (Some command)) later = world_by w (step w command) later
world_by_line w (Err cause) later = w

-- the world after these lines, up to the first that is refused
abbrev pub world_after : World → List ScriptLine → World
world_after w [] = w
world_after w (Refused cause ∷ rest) = w
world_after w (Whole text ∷ rest) = world_by_line w (command_of text) (λ next. world_after next rest)

-- the world at the end of a script
abbrev pub world_of : Stock → List ℕ → World
world_of stock script = world_after (opening stock) (script_lines script)

-- the report ends as the driver says: with the `end` line, which counts the lines and what was sent, or with the line that
-- names the refused one
abbrev pub EndsBy : Ending Cause → World → List ReportLine → Type 0
EndsBy (endings.Whole lines) w report = (front : List ReportLine) × (report ≡ front ++ End lines (length w.sent) ∷ [])
EndsBy (endings.Refused number cause) w report = (front : List ReportLine) × (report ≡ front ++ At number (Bad cause) ∷ [])

-- at the end of a script the course has the world, and the counts of the report
pub record AreCounted (stock : Stock) (script : List ℕ) (c : Course) : Type 0 where
  pub world : c.world ≡ world_of stock script
  pub granted : c.granted ≡ granted_count (report_lines stock script)
  pub short : c.short ≡ short_count (report_lines stock script)
