-- How the cause for which a line is refused is written.
use Rattle.std.specs.{Prelude.{ℕ, List, ◌++◌, codes}, Fmt.{decimal}}
use Rattle.ptu_lines.specs.declared.cause.LineCause.{LineCause}
use Rattle.ptu_lines.specs.declared.cause.LineCause.TheVariants.{Count, Field, Long, Size, Text, Word}

abbrev pub line_cause_word : LineCause → List ℕ
line_cause_word Size = codes "size"
line_cause_word Long = codes "long"
line_cause_word Text = codes "text"
line_cause_word Word = codes "word"
line_cause_word Count = codes "count"
line_cause_word (Field number) = codes "field"

-- the word, and the number of a field behind it
abbrev pub line_cause_text : LineCause → List ℕ
line_cause_text (Field number) = codes "field " ++ decimal number
line_cause_text cause = line_cause_word cause
