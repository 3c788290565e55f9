-- The report on a script.
use Rattle.std.specs.Prelude.{ℕ, ◌+◌, Bool, true, false, List, [], ◌∷◌, ◌++◌, length, map, Option, Some, None, Result, Ok, Err}
use Rattle.std.specs.List.{count_by}
use Rattle.ptu_lines.specs.Script.{ScriptLine, Whole, Refused, script_lines}
use Rattle.ptu_report.specs.Rules.{Rules, Outcome, Goes, Refuses}
use Rattle.ptu_script.specs.declared.{cause.Cause.{Cause}, command.Command.{Command}}
use Rattle.ptu_script.specs.{Cause.{cause_of_line}, Command.{command_of}}
use Rattle.ptu_report_lines.specs.declared.decision.Decision.TheVariants as decisions
use Rattle.ptu_report_lines.specs.declared.report_line.ReportLine.{ReportLine}
use Rattle.ptu_report_lines.specs.declared.report_line.ReportLine.TheVariants.{At, End}
use Rattle.ptu_report_lines.specs.declared.statement.Statement.{Statement}
use Rattle.ptu_report_lines.specs.declared.statement.Statement.TheVariants.{Bad, Decided}
use Rattle.ptu_report_lines.specs.Report.{line_text}
use Rattle.ptu_world.specs.World.{World, Stock, Done, opening, step}

-- ---- the report

-- of the line with this number, by what its command makes of the world, and then of later ones
abbrev pub lines_by : ℕ → Result Done Cause → (World → List ReportLine) → List ReportLine
lines_by number (Ok done) later = map (At number) done.said ++ later done.world
lines_by number (Err cause) later = At number (Bad cause) ∷ []

-- the same by what it commands
abbrev pub lines_by_line : World → ℕ → Result (Option Command) Cause → (World → List ReportLine) → List ReportLine
lines_by_line w number (Ok None) later = later w
lines_by_line w number (Ok (Some command)) later = lines_by number (step w command) later
lines_by_line w number (Err cause) later = At number (Bad cause) ∷ []

-- of the lines that are left, after so many: up to the first that is refused, or to the end
abbrev pub lines_from : World → ℕ → List ScriptLine → List ReportLine
lines_from w before [] = End before (length w.sent) ∷ []
lines_from w before (Refused cause ∷ rest) = At (before + 1) (Bad (cause_of_line cause)) ∷ []
lines_from w before (Whole text ∷ rest) = lines_by_line w (before + 1) (command_of text) (λ next. lines_from next (before + 1) rest)

-- the lines of the report on a script, over so many judges of each rule
abbrev pub report_lines : Stock → List ℕ → List ReportLine
report_lines stock script = lines_from (opening stock) 0 (script_lines script)

-- their texts
abbrev pub report : Stock → List ℕ → List (List ℕ)
report stock script = map line_text (report_lines stock script)

-- ---- how many asks it says were granted, and were short

abbrev pub is_granted : Statement → Bool
is_granted (Decided (decisions.Granted k log x until)) = true
is_granted _ = false

abbrev pub is_short : Statement → Bool
is_short (Decided (decisions.Short k log x others rate capacity)) = true
is_short _ = false

abbrev pub is_granted_line : ReportLine → Bool
is_granted_line (At number statement) = is_granted statement
is_granted_line (End lines datagrams) = false

abbrev pub is_short_line : ReportLine → Bool
is_short_line (At number statement) = is_short statement
is_short_line (End lines datagrams) = false

abbrev pub granted_count : List ReportLine → ℕ
granted_count lines = count_by is_granted_line lines

abbrev pub short_count : List ReportLine → ℕ
short_count lines = count_by is_short_line lines

-- ---- the same as rules of a program over lines

-- a world, and of how many asks it was said on the way to it that they were granted, and that they were short
pub record Course : Type 0 where
  pub world : World
  pub granted : ℕ
  pub short : ℕ

abbrev pub course_opening : Stock → Course
course_opening stock = record { world = opening stock; granted = 0; short = 0 }

-- the course with what a command makes of its world
abbrev pub course_after : Course → Done → Course
course_after c done = record {
  world = done.world;
  granted = c.granted + count_by is_granted done.said;
  short = c.short + count_by is_short done.said;
}

-- the text of what is said of the script's line with this number
abbrev pub text_at : ℕ → Statement → List ℕ
text_at number statement = line_text (At number statement)

-- what the line with this number is, by what its command makes of the world
abbrev pub outcome_by : Course → ℕ → Result Done Cause → Outcome Course Cause
outcome_by c number (Ok done) = Goes (course_after c done) (map (text_at number) done.said)
outcome_by c number (Err cause) = Refuses cause

-- the same by what the line commands
abbrev pub outcome_by_line : Course → ℕ → Result (Option Command) Cause → Outcome Course Cause
outcome_by_line c number (Ok None) = Goes c []
outcome_by_line c number (Ok (Some command)) = outcome_by c number (step c.world command)
outcome_by_line c number (Err cause) = Refuses cause

-- what a replay does: with each line, at the end, and with a line that is refused
unfoldable pub rules : Rules Course Cause
rules = record {
  step = λ c number line. outcome_by_line c number (command_of line);
  close = λ c lines. Goes c (line_text (End lines (length c.world.sent)) ∷ []);
  refusal = λ number cause. text_at number (Bad cause);
  cause_of = cause_of_line;
}
