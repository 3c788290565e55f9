-- How each line that `join` writes is written.
use Rattle.std.specs.Prelude.{ℕ, List, ◌++◌, codes}
use Rattle.hex.specs.Hex.{encode_lower}
use Rattle.ptu_show.specs.declared.join_lines.JoinLine.{JoinLine}
use Rattle.ptu_show.specs.declared.join_lines.JoinLine.TheVariants.{Pair, Overflow, Wait, Pass}
use Rattle.ptu_show.specs.declared.join_lines.JoinLine.TheVariants.{Bad, End}
use Rattle.ptu_show.specs.{Joined.{joins_end_line}, Shown.{bad_line, numbered_line}}

abbrev pub join_line_text : JoinLine → List ℕ
join_line_text (Pair number sync) = numbered_line number (codes "pair " ++ encode_lower sync.0.now)
join_line_text (Overflow number) = numbered_line number (codes "overflow")
join_line_text (Wait number) = numbered_line number (codes "wait")
join_line_text (Pass number) = numbered_line number (codes "pass")
join_line_text (Bad number cause) = bad_line number cause
join_line_text (End lines keys) = joins_end_line lines keys
