-- How each line that `show` writes is written.
use Rattle.std.specs.Prelude.{ℕ, List, ◌++◌, codes}
use Rattle.ptu_lines.specs.Faults.{fault_text}
use Rattle.ptu_show.specs.declared.lines.ShowLine.{ShowLine}
use Rattle.ptu_show.specs.declared.lines.ShowLine.TheVariants.{Message, Fault, Bad, End}
use Rattle.ptu_show.specs.{Datagram.{message_text}, Shown.{bad_line, end_line, numbered_line}}

abbrev pub show_line_text : ShowLine → List ℕ
show_line_text (Message number text) = numbered_line number (message_text text.length text.message.now)
show_line_text (Fault number fault) = numbered_line number (codes "fault " ++ fault_text fault.0)
show_line_text (Bad number cause) = bad_line number cause
show_line_text (End lines) = end_line lines
