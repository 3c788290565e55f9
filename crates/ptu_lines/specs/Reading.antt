-- What a reader of lines holds, and what it still has to give.
use Rattle.std.specs.Prelude.{◌≡◌, ◌⊎◌, ℕ, ◌+◌, ◌≤◌, Bool, true, false, if◌then◌else◌, List, [], ◌∷◌, ◌++◌, length, take, map, Option, Some, None, Result, Ok, Err, IfSome, IsTrue, option_map}
use Rattle.std.specs.{List.{flat_map}, Io.KnownBytes.{IsAtEnd, prepend_known}}
use Rattle.ptu_outside.specs.Faults.{HasRisen}
use Rattle.ptu_lines.specs.declared.fault.LinesFault.{LinesFault}
use Rattle.ptu_lines.specs.declared.fault.LinesFault.TheVariants.{Line, Read}
use Rattle.ptu_lines.specs.declared.cause.LineCause.{LineCause}
use Rattle.ptu_lines.specs.declared.cause.LineCause.TheVariants.{Size, Long, Text}
use Rattle.ptu_lines.specs.Script.{ScriptLine, Whole, Refused, HasNoEnd, AreEnded, AreLines, pieces, text_of, lines_from}

-- a buffer: the text of the line that was given last, the octets that wait, and whether its source's end was found
pub record Held : Type 0 where
  pub text : List ℕ
  pub waiting : List ℕ
  pub is_ended : Bool

-- a reader of lines: how many lines it gave and the text of the last one, how many octets stood before those that wait,
-- the octets that wait, and whether its source's end was found
pub record Reader : Type 0 where
  pub number : ℕ
  pub text : List ℕ
  pub before : ℕ
  pub waiting : List ℕ
  pub is_ended : Bool

-- it has read nothing
pub record IsFresh (reader : Reader) : Type 0 where
  pub waiting : reader.waiting ≡ []
  pub before : reader.before ≡ 0
  pub number : reader.number ≡ 0
  pub is_ended : reader.is_ended ≡ false

-- how many octets it has taken from its source
abbrev pub octets_taken : Reader → ℕ
octets_taken reader = reader.before + length reader.waiting

-- where an end was found the source is at it, if it tells
abbrev pub AgreesOnEnd : Bool → Option (List ℕ) → Type 0
AgreesOnEnd is_ended left = IsTrue is_ended → IsAtEnd left

-- the end was read once where it was found, and nothing behind it, if the source tells of that
abbrev pub IsReadToEnd : Bool → Option ℕ → Type 0
IsReadToEnd is_ended ends = IfSome ends (λ n. n ≡ (if is_ended then 1 else 0))

-- the lines to come, where the source tells what is left: so many octets stood before those that wait
abbrev pub lines_to_come : ℕ → List ℕ → Option (List ℕ) → Option (List ScriptLine)
lines_to_come before waiting left = option_map (λ octets. lines_from before (pieces (waiting ++ octets))) left

-- of a reader
abbrev pub lines_left : Reader → Option (List ℕ) → Option (List ScriptLine)
lines_left reader left = lines_to_come reader.before reader.waiting left

-- a cause that the reader itself gives
abbrev pub IsOfReading : LineCause → Type 0
IsOfReading Size = Unit {0}
IsOfReading Long = Unit {0}
IsOfReading Text = Unit {0}
IsOfReading _ = ⊥

-- the octets of the next line that are known, 0A included: to the 0A where its place is known, else the first 8193
abbrev pub known_of : Option ℕ → List ℕ → List ℕ
known_of None waiting = take 8193 waiting
known_of (Some place) waiting = take (place + 1) waiting

-- enough is known of the next line where no 0A is found: 8193 octets of it, or all that may be read, or all that there is
abbrev pub IsEnough : ℕ → List ℕ → Bool → Type 0
IsEnough before waiting is_ended = (8193 ≤ length waiting) ⊎ ((before + length waiting ≡ 67108865) ⊎ IsTrue is_ended)

-- From one state of a reader to a later one it took octets from the source and gave these lines, each with its 0A: they
-- stand at the front of the octets that waited and those that were taken, and the rest waits. Each line ends with a 0A,
-- but for one that the end of input cuts off.
pub record Gives (from to : Reader) (left left' : Option (List ℕ)) (lines : List (List ℕ)) : Type 0 where
  pub octets : List ℕ
  pub taken : left ≡ prepend_known octets left'
  pub count : octets_taken from + length octets ≡ octets_taken to
  pub cut : from.waiting ++ octets ≡ flat_map (λ line. line) lines ++ to.waiting
  pub each : AreLines lines
  pub ended : to.is_ended ≡ false → (from.is_ended ≡ false) × AreEnded lines
  pub number : to.number ≡ from.number + length lines
  pub told : lines_left from left ≡ option_map (λ rest. map (λ line. Whole (text_of line)) lines ++ rest) (lines_left to left')

-- a line was given, and its text kept
pub record IsGiven (number : ℕ) (from to : Reader) (left left' : Option (List ℕ)) : Type 0 where
  pub line : List ℕ
  pub text : text_of line ≡ to.text
  pub number_is : number ≡ from.number + 1
  pub gives : Gives from to left left' (line ∷ [])

-- there is no more line: all that the source had was taken and given
pub record IsAllGiven (from to : Reader) (left left' : Option (List ℕ)) : Type 0 where
  pub gives : Gives from to left left' []
  pub waiting : to.waiting ≡ []
  pub is_ended : to.is_ended ≡ true
  pub end : IsAtEnd left'

-- the next line is refused
pub record IsRefused (number : ℕ) (cause : LineCause) (from to : Reader) (left left' : Option (List ℕ)) : Type 0 where
  pub gives : Gives from to left left' []
  pub number_is : number ≡ from.number + 1
  pub of_reading : IsOfReading cause
  pub told : IfSome (lines_left from left) (λ lines. lines ≡ Refused cause ∷ [])

-- the source failed, and no line ends in the octets that wait: each line that was read whole was given
pub record IsStopped (from to : Reader) (left left' : Option (List ℕ)) : Type 0 where
  pub gives : Gives from to left left' []
  pub unended : HasNoEnd to.waiting
  pub no_end : to.is_ended ≡ false

-- what a call for the next line did
abbrev pub HasNext : Result (Option ℕ) LinesFault → Reader → Reader → Option (List ℕ) → Option (List ℕ) → Type 0
HasNext (Ok (Some number)) from to left left' = IsGiven number from to left left'
HasNext (Ok None) from to left left' = IsAllGiven from to left left'
HasNext (Err (Line number cause)) from to left left' = IsRefused number cause from to left left'
HasNext (Err Read) from to left left' = IsStopped from to left left'

-- the count of faults rises exactly where the source failed
abbrev pub CountsRead : Result (Option ℕ) LinesFault → ℕ → ℕ → Type 0
CountsRead (Ok given) old new = new ≡ old
CountsRead (Err (Line number cause)) old new = new ≡ old
CountsRead (Err Read) old new = HasRisen old new
