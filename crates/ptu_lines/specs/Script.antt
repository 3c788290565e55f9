-- A script cut into its lines. The limits and causes are the project's own choice.
use Rattle.std.specs.Prelude.{◌≡◌, ◌⊎◌, ℕ, ◌+◌, min, nat_le, nat_lt, Bool, false, not, ◌&&◌, ◌==◌, if◌then◌else◌, List, [], ◌∷◌, ◌++◌, length, take_while, Option, Some, None}
use Rattle.std.specs.List.{list_all, onto_first}
use Rattle.ptu_lines.specs.declared.cause.LineCause.{LineCause}
use Rattle.ptu_lines.specs.declared.cause.LineCause.TheVariants.{Size, Long, Text}

-- the octet that ends a line
abbrev pub is_end : ℕ → Bool
is_end octet = octet == 10

-- no octet is a 0A
abbrev pub HasNoEnd : List ℕ → Type 0
HasNoEnd [] = Unit {0}
HasNoEnd (octet ∷ rest) = (is_end octet ≡ false) × HasNoEnd rest

-- each of these is a line, with or without the 0A at its end
abbrev pub AreLines : List (List ℕ) → Type 0
AreLines [] = Unit {0}
AreLines (line ∷ lines) = ((text : List ℕ) × HasNoEnd text × ((line ≡ text ++ 10 ∷ []) ⊎ (line ≡ text))) × AreLines lines

-- each of these is a line with the 0A at its end
abbrev pub AreEnded : List (List ℕ) → Type 0
AreEnded [] = Unit {0}
AreEnded (line ∷ lines) = ((text : List ℕ) × HasNoEnd text × (line ≡ text ++ 10 ∷ [])) × AreEnded lines

-- the octets of each line, cut after each 0A; the last line may lack it
abbrev pub pieces : List ℕ → List (List ℕ)
pieces [] = []
pieces (octet ∷ rest) = if is_end octet then (octet ∷ []) ∷ pieces rest else onto_first octet (pieces rest)

-- a line without its 0A
abbrev pub text_of : List ℕ → List ℕ
text_of piece = take_while (λ octet. not (is_end octet)) piece

-- an octet of plain text
abbrev pub is_plain : ℕ → Bool
is_plain octet = nat_le 0x20 octet && nat_le octet 0x7E

-- octet 67108865 of the script is among the first 8193 octets of the line, before which so many octets stand
abbrev pub passes_limit : ℕ → List ℕ → Bool
passes_limit before piece = nat_le before 67108864 && nat_lt 67108864 (before + min (length piece) 8193)

-- why a line is refused, if it is
abbrev pub cause_of : ℕ → List ℕ → Option LineCause
cause_of before piece =
    if passes_limit before piece then Some Size
    else if nat_lt 8192 (length (text_of piece)) then Some Long
    else if list_all is_plain (text_of piece) then None
    else Some Text

-- a line of a script: its text, or why it is refused
pub data ScriptLine : Type 0 where
  Whole : List ℕ → ScriptLine
  Refused : LineCause → ScriptLine

-- a line, and the lines after it where it is not refused
abbrev pub line_then : List ℕ → Option LineCause → List ScriptLine → List ScriptLine
line_then piece None rest = Whole (text_of piece) ∷ rest
line_then piece (Some cause) rest = Refused cause ∷ []

-- the lines of these octets each, before the first of which so many octets stand
abbrev pub lines_from : ℕ → List (List ℕ) → List ScriptLine
lines_from before [] = []
lines_from before (piece ∷ rest) = line_then piece (cause_of before piece) (lines_from (before + length piece) rest)

-- the lines of a script in order, to the first that is refused where there is one
abbrev pub script_lines : List ℕ → List ScriptLine
script_lines script = lines_from 0 (pieces script)
