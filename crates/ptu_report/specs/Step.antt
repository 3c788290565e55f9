-- What one line of the input was to a program over lines.
use Rattle.std.specs.Prelude.{◌≡◌, ℕ, ◌+◌, List, [], ◌∷◌, Option, Some, None, IfSome}
use Rattle.ptu_outside.specs.Handing.{HasPut}
use Rattle.ptu_lines.specs.{Script.{ScriptLine, text_of}, Reading.{Reader, Gives, lines_left}}
use Rattle.ptu_report.specs.declared.ending.Ending.{Ending}
use Rattle.ptu_report.specs.declared.ending.Ending.TheVariants as endings
use Rattle.ptu_report.specs.Rules.{Rules, Goes, closing, texts_until, ending_after, meaning_after}

-- the texts of what a line or the end came to: those that it gave, or the one that names it as refused
abbrev pub texts_found : {C : Type 0} → (C → List ℕ) → List (List ℕ) → Option C → List (List ℕ)
texts_found refusal given None = given
texts_found refusal given (Some cause) = refusal cause ∷ []

-- it is the whole one
abbrev pub is_whole : {C : Type 0} → Ending C → Type 0
is_whole (endings.Whole lines) = Unit {0}
is_whole (endings.Refused number cause) = ⊥

module _ {K : Type 0} (written : K → Option (List ℕ)) (handed : K → Option (List (List ℕ))) (old new : K) {M C : Type 0} (rules : Rules M C) (m : M) (from to : Reader) (left left' : Option (List ℕ)) where
  -- a line was given, and the program went on with its texts to another meaning
  pub record HasGone (stands : M → Type 0) : Type 0 where
    pub line : List ℕ
    pub gives : Gives from to left left' (line ∷ [])
    pub after : M
    pub texts : List (List ℕ)
    pub step : rules.step m (from.number + 1) (text_of line) ≡ Goes after texts
    pub stands_after : stands after
    pub put : HasPut written handed old new texts

  -- the output of the lines that were left was put to its end, and where none of them is refused, the state stands for the
  -- meaning that they lead to
  pub record HasEnded (stands : M → Type 0) (ending : Ending C) (lines : List ScriptLine) : Type 0 where
    pub put : HasPut written handed old new (texts_until rules (closing rules) m from.number lines)
    pub ends : ending ≡ ending_after rules m from.number lines
    pub last : is_whole ending → IfSome (meaning_after rules m from.number lines) stands

  -- one line more, or the end
  abbrev pub HasStepped : (M → Type 0) → Option (Ending C) → Type 0
  HasStepped stands None = HasGone stands
  HasStepped stands (Some ending) = (lines : List ScriptLine) → lines_left from left ≡ Some lines → HasEnded stands ending lines
