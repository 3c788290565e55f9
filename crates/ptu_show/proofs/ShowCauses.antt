-- For which causes `show` refuses a line.
use Rattle.std.proofs.Common.{◌≡◌, ◌⊎◌, ℕ, ◌+◌, Bool, true, false, List, [], ◌∷◌, length, Option, Some, None, Ok, inl, inr, refl, ap}
use Rattle.std.specs.{Prelude.{if◌then◌else◌, IfSome, nat_lt}, List.{list_all}}
use Rattle.ptu_lines.specs.declared.cause.LineCause.{LineCause}
use Rattle.ptu_lines.specs.declared.cause.LineCause.TheVariants.{Size, Long, Text}
use Rattle.ptu_lines.specs.Script.{ScriptLine, Whole, Refused, cause_of, is_plain, line_then, lines_from, passes_limit, pieces, script_lines, text_of}
use Rattle.ptu_lines.specs.Words.{octets_of}
use Rattle.ptu_script.specs.{Cause.{cause_of_line}, Command.{is_comment}}
use Rattle.ptu_report.specs.declared.ending.Ending.{Ending}
use Rattle.ptu_report.specs.declared.ending.Ending.TheVariants as endings
use Rattle.ptu_report.specs.Rules.{ending_after, ending_at}
use Rattle.ptu_script.specs.declared.cause.Cause.{Cause}
use Rattle.ptu_show.specs.Reading.{datagram_by}
use Rattle.ptu_show.specs.Shown.{HasShowCause, shown_by, show_rules, shown_ending}

-- a cause of the reader of lines
abbrev pub IsOfReader : LineCause → Type 0
IsOfReader cause = (cause ≡ Size) ⊎ (cause ≡ Long) ⊎ (cause ≡ Text)

abbrev pub AreOfReader : List ScriptLine → Type 0
AreOfReader [] = Unit {0}
AreOfReader (Whole text ∷ rest) = AreOfReader rest
AreOfReader (Refused cause ∷ rest) = IsOfReader cause × AreOfReader rest

cause_by : (a b c : Bool) → IfSome (if a then Some Size else (if b then Some Long else (if c then None else Some Text))) IsOfReader
cause_by true b c = inl refl
cause_by false true c = inr (inl refl)
cause_by false false true = tt
cause_by false false false = inr (inr refl)

line_by : (piece : List ℕ) (cause : Option LineCause) (rest : List ScriptLine) → IfSome cause IsOfReader → AreOfReader rest → AreOfReader (line_then piece cause rest)
line_by piece None rest h others = others
line_by piece (Some cause) rest h others = (h, tt)

pub lines_from-causes : (before : ℕ) (lines : List (List ℕ)) → AreOfReader (lines_from before lines)
lines_from-causes before [] = tt
lines_from-causes before (piece ∷ rest) =
    line_by piece (cause_of before piece) (lines_from (before + length piece) rest)
    (cause_by (passes_limit before piece) (nat_lt 8192 (length (text_of piece))) (list_all is_plain (text_of piece)))
    (lines_from-causes (before + length piece) rest)

pub of_reader : (number : ℕ) (cause : LineCause) → IsOfReader cause → HasShowCause (endings.Refused number (cause_of_line cause))
of_reader number cause h =
    elim h [
      | inl e ↦ inl (ap cause_of_line e)
      | inr o ↦ elim o [ inl e ↦ inr (inl (ap cause_of_line e)) | inr e ↦ inr (inr (inl (ap cause_of_line e))) ]
    ]

step_by : (number : ℕ) (b : Bool) (octets : Option (List ℕ)) (later : Unit {0} → Ending Cause) → HasShowCause (later tt)
    → HasShowCause (ending_at number (shown_by number (if b then Ok None else datagram_by octets)) later)
step_by number true octets later h = h
step_by number false None later h = inr (inr (inr refl))
step_by number false (Some octets) later h = h

ending-causes : (before : ℕ) (lines : List ScriptLine) → AreOfReader lines → HasShowCause (ending_after show_rules tt before lines)
ending-causes before [] h = tt
ending-causes before (Refused cause ∷ rest) h =
    of_reader (before + 1) cause h.0
ending-causes before (Whole text ∷ rest) h =
    step_by (before + 1) (is_comment text) (octets_of text) (λ after. ending_after show_rules after (before + 1) rest) (ending-causes (before + 1) rest h)

pub shown_ending-causes : (input : List ℕ) → HasShowCause (shown_ending input)
shown_ending-causes input = ending-causes 0 (script_lines input) (lines_from-causes 0 (pieces input))
