-- Why a line is refused, and how that is written.
use Rattle.std.specs.Prelude.{ℕ, List, Result, Ok, Err, codes}
use Rattle.ptu_lines.specs.Cause.{line_cause_text}
use Rattle.ptu_lines.specs.declared.cause.LineCause.{LineCause}
use Rattle.ptu_script.specs.declared.cause.Cause.{Cause}
use Rattle.ptu_script.specs.declared.cause.Cause.TheVariants.{Full, Line, Node, Number, Order, Stock}

abbrev pub cause_text : Cause → List ℕ
cause_text (Line cause) = line_cause_text cause
cause_text Order = codes "order"
cause_text Node = codes "node"
cause_text Full = codes "full"
cause_text Number = codes "number"
cause_text Stock = codes "stock"

-- the line cannot be read as a command, for this cause
abbrev pub cause_of_line : LineCause → Cause
cause_of_line cause = Line cause

-- what was read of a line, with its cause by this name
abbrev pub named : {A : Type 0} → Result A LineCause → Result A Cause
named (Ok x) = Ok x
named (Err cause) = Err (cause_of_line cause)
