-- The lines of a report.
use Rattle.std.specs.{Prelude.{ℕ, List, [], ◌∷◌, ◌++◌, codes}, Fmt.{decimal}}
use Rattle.ptu_report_lines.specs.declared.report_line.ReportLine.{ReportLine}
use Rattle.ptu_report_lines.specs.declared.report_line.ReportLine.TheVariants.{At, End}
use Rattle.ptu_report_lines.specs.Statements.{words_text, statement_text}

-- the octets of a line, with the 0A at its end
abbrev pub line_text : ReportLine → List ℕ
line_text (At number statement) = words_text (decimal number ∷ statement_text statement ∷ []) ++ codes "\n"
line_text (End lines datagrams) = words_text (codes "end" ∷ decimal lines ∷ decimal datagrams ∷ []) ++ codes "\n"
