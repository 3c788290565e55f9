-- What is read in a line of a report, by what it was written of.
use Rattle.std.specs.Prelude.{◌≡◌, ℕ, List, map, Option, Some, None, IsSome, option_map}
use Rattle.ptu_outside.specs.Handing.{joined}
use Rattle.ptu_lines.specs.Script.{Whole, script_lines, text_of}
use Rattle.ptu_report_lines.specs.declared.decision.Decision.{Decision as WrittenDecision}
use Rattle.ptu_report_lines.specs.declared.decision.Decision.TheVariants as written
use Rattle.ptu_report_lines.specs.declared.report_line.ReportLine.{ReportLine as WrittenLine}
use Rattle.ptu_report_lines.specs.declared.report_line.ReportLine.TheVariants as lines
use Rattle.ptu_report_lines.specs.declared.statement.Statement.{Statement}
use Rattle.ptu_report_lines.specs.declared.statement.Statement.TheVariants as statements
use Rattle.ptu_report_lines.specs.Report.{line_text}
use Rattle.ptu_audit_lines.specs.declared.entry.{Decision.{Decision}, Entry.{Entry}, ReportLine.{ReportLine}}
use Rattle.ptu_audit_lines.specs.declared.entry.Decision.TheVariants as decisions
use Rattle.ptu_audit_lines.specs.declared.entry.Entry.TheVariants as entries
use Rattle.ptu_audit_lines.specs.declared.entry.ReportLine.TheVariants as reports
use Rattle.ptu_audit_lines.specs.Entry.{line_of}

-- the same decision
abbrev pub decision_as : WrittenDecision → Decision
decision_as (written.Granted kind log at until) = decisions.Granted kind log at until
decision_as (written.Short kind log at others rate capacity) = decisions.Short kind log at others rate capacity
decision_as (written.OutsideType code) = decisions.OutsideType code
decision_as (written.OutsideLog kind log) = decisions.OutsideLog kind log
decision_as (written.OutsideDuration kind log seconds) = decisions.OutsideDuration kind log seconds
decision_as (written.Cancelled kind at) = decisions.Cancelled kind at
decision_as (written.Nothing kind at) = decisions.Nothing kind at
decision_as (written.NoKind code) = decisions.NothingCode code

-- the same statement, where it says something of a grandmaster's promises or of what was sent; a line that names a
-- refused line of a script has no form
abbrev pub entry_as : Statement → Option Entry
entry_as (statements.Decided decision) = Some (entries.Decided (decision_as decision))
entry_as (statements.Asked answer) = Some entries.Other
entry_as (statements.Heard hearing) = Some entries.Other
entry_as (statements.Received received) = Some entries.Other
entry_as (statements.Ignored reason) = Some entries.Other
entry_as (statements.Capacity grandmaster capacity at) = Some (entries.Capacity grandmaster capacity at)
entry_as (statements.Shed kind log client) = Some (entries.Shed kind log client)
entry_as statements.Nobody = Some entries.Other
entry_as (statements.Sent datagram sent) = Some (entries.Send datagram sent.from sent.to sent.octets)
entry_as (statements.Selected slave master) = Some entries.Other
entry_as (statements.Bad cause) = None

-- the same line, where it has a form
abbrev pub line_as : WrittenLine → Option ReportLine
line_as (lines.At number statement) = option_map (reports.At number) (entry_as statement)
line_as (lines.End count datagrams) = Some (reports.End count datagrams)

-- the octets of a line without the 0A at its end
abbrev pub text_in : WrittenLine → List ℕ
text_in line = text_of (line_text line)

-- a line is read back as what it was written of
abbrev pub IsReadBack : WrittenLine → Type 0
IsReadBack line = line_of (text_in line) ≡ line_as line

-- nothing is read in a line, though it was written of something
abbrev pub IsLost : WrittenLine → Type 0
IsLost line = (line_of (text_in line) ≡ None) × IsSome (line_as line)

-- the octets of a report
abbrev pub written_report : List WrittenLine → List ℕ
written_report report = joined (map line_text report)

-- who reads a report by lines is given just its lines, none of them refused
abbrev pub IsGivenByLines : List WrittenLine → Type 0
IsGivenByLines report = script_lines (written_report report) ≡ map (λ line. Whole (text_in line)) report
