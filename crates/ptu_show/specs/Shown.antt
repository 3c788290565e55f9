-- What `show` writes for an input: a line for each datagram, up to the first line that is refused
-- or to the end.
use Rattle.std.specs.Prelude.{◌≡◌, ◌⊎◌, ℕ, List, [], ◌∷◌, ◌++◌, codes, Option, Some, None, Result}
use Rattle.std.specs.{Prelude.{Ok, Err}, Fmt.{decimal}}
use Rattle.ptu_outside.specs.Handing.{joined}
use Rattle.ptu_lines.specs.{Script.{script_lines}, declared.cause.LineCause.{LineCause}}
use Rattle.ptu_report.specs.declared.ending.Ending.{Ending}
use Rattle.ptu_report.specs.declared.ending.Ending.TheVariants as endings
use Rattle.ptu_report.specs.Reported.{HasWritten}
use Rattle.ptu_report.specs.Rules.{Rules, Outcome, Goes, Refuses, ending_of, texts_of}
use Rattle.ptu_script.specs.declared.cause.Cause.{Cause}
use Rattle.ptu_lines.specs.declared.cause.LineCause.TheVariants.{Field, Long, Size, Text}
use Rattle.ptu_script.specs.declared.cause.Cause.TheVariants.{Line}
use Rattle.ptu_script.specs.Cause.{cause_of_line, cause_text}
use Rattle.ptu_show.specs.{Datagram.{datagram_text}, Reading.{datagram_in}}

-- a line of output that begins with the number of a line of input
abbrev pub numbered_line : ℕ → List ℕ → List ℕ
numbered_line number text = decimal number ++ (codes " " ++ (text ++ codes "\n"))

-- the line that names a line of input as refused
abbrev pub bad_line : ℕ → Cause → List ℕ
bad_line number cause = numbered_line number (codes "bad " ++ cause_text cause)

-- the last line of a whole output
abbrev pub end_line : ℕ → List ℕ
end_line lines = codes "end " ++ (decimal lines ++ codes "\n")

-- what a line does by what it writes: the line of its datagram, nothing where it writes none, or it
-- is refused
abbrev pub shown_by : ℕ → Result (Option (List ℕ)) LineCause → Outcome (Unit {0}) Cause
shown_by number (Ok None) = Goes tt []
shown_by number (Ok (Some octets)) = Goes tt (numbered_line number (datagram_text octets) ∷ [])
shown_by number (Err cause) = Refuses (cause_of_line cause)

abbrev pub show_rules : Rules (Unit {0}) Cause
show_rules = record {
  step = λ _ number line. shown_by number (datagram_in line);
  close = λ _ lines. Goes tt (end_line lines ∷ []);
  refusal = bad_line;
  cause_of = cause_of_line;
}

-- the lines of output for an input, how they end, and their octets
abbrev pub shown_lines : List ℕ → List (List ℕ)
shown_lines input = texts_of show_rules tt (script_lines input)

abbrev pub shown_ending : List ℕ → Ending Cause
shown_ending input = ending_of show_rules tt (script_lines input)

abbrev pub shown : List ℕ → List ℕ
shown input = joined (shown_lines input)

-- all that belongs to the input was written, each line handed over in one piece, and it ends so
abbrev pub HasShown : {K : Type 0} → (K → Option (List ℕ)) → (K → Option (List (List ℕ)))
    → K → K → List ℕ → Ending Cause → Type 0
HasShown written handed old new input ending =
    HasWritten written handed old new (shown_lines input) (shown_ending input) ending

-- no line is refused but for these causes
abbrev pub IsRefusedFor : {C : Type 0} → (size long text field : C) → Ending C → Type 0
IsRefusedFor size long text field (endings.Whole lines) = Unit {0}
IsRefusedFor size long text field (endings.Refused number cause) =
    (cause ≡ size) ⊎ (cause ≡ long) ⊎ (cause ≡ text) ⊎ (cause ≡ field)

abbrev pub HasShowCause : Ending Cause → Type 0
HasShowCause ending = IsRefusedFor (Line Size) (Line Long) (Line Text) (Line (Field 1)) ending
