-- What a program over lines does, and its output for all the lines of an input.
use Rattle.std.specs.Prelude.{◌≡◌, ℕ, ◌+◌, List, [], ◌∷◌, ◌++◌, Option, Some, None}
use Rattle.ptu_lines.specs.declared.cause.LineCause.{LineCause}
use Rattle.ptu_lines.specs.Script.{ScriptLine, Whole, Refused}
use Rattle.ptu_report.specs.declared.ending.Ending.{Ending}
use Rattle.ptu_report.specs.declared.ending.Ending.TheVariants as endings

-- what a line does: it is refused for a cause, or there is a new meaning, and texts of output
pub data Outcome (M C : Type 0) : Type 0 where
  Refuses : C → Outcome M C
  Goes : M → List (List ℕ) → Outcome M C

-- what the line with a number and a text does; what the end does, after so many lines; the text that names a line with
-- a number as refused; and the cause of a line that the reader of lines refuses
pub record Rules (M C : Type 0) : Type 0 where
  pub step : M → ℕ → List ℕ → Outcome M C
  pub close : M → ℕ → Outcome M C
  pub refusal : ℕ → C → List ℕ
  pub cause_of : LineCause → C

-- these texts, or this cause of a refusal, are the outcome, and the new state stands for the new meaning
abbrev pub IsOutcome : {M C : Type 0} → Outcome M C → (M → Type 0) → List (List ℕ) → Option C → Type 0
IsOutcome (Goes m texts) stands given None = stands m × (given ≡ texts)
IsOutcome (Refuses cause) stands given (Some found) = found ≡ cause
IsOutcome (Goes m texts) stands given (Some found) = ⊥
IsOutcome (Refuses cause) stands given None = ⊥

-- the texts of an outcome at the line with this number, and of what comes later
abbrev pub texts_at : {M C : Type 0} → Rules M C → ℕ → Outcome M C → (M → List (List ℕ)) → List (List ℕ)
texts_at rules number (Refuses cause) later = rules.refusal number cause ∷ []
texts_at rules number (Goes m texts) later = texts ++ later m

-- the texts for the lines that are left, after so many: up to the first that is refused, or to the end, at which
-- these are the last ones
abbrev pub texts_until : {M C : Type 0} → Rules M C → (M → ℕ → List (List ℕ)) → M → ℕ → List ScriptLine → List (List ℕ)
texts_until rules last m before [] = last m before
texts_until rules last m before (Refused cause ∷ rest) = rules.refusal (before + 1) (rules.cause_of cause) ∷ []
texts_until rules last m before (Whole text ∷ rest) =
    texts_at rules (before + 1) (rules.step m (before + 1) text) (λ after. texts_until rules last after (before + 1) rest)

-- what is written at the end
abbrev pub closing : {M C : Type 0} → Rules M C → M → ℕ → List (List ℕ)
closing rules m lines = texts_at rules (lines + 1) (rules.close m lines) (λ after. [])

-- the texts of the whole output
abbrev pub texts_of : {M C : Type 0} → Rules M C → M → List ScriptLine → List (List ℕ)
texts_of rules m lines = texts_until rules (closing rules) m 0 lines

-- the texts that belong to these lines alone
abbrev pub texts_of_lines : {M C : Type 0} → Rules M C → M → List ScriptLine → List (List ℕ)
texts_of_lines rules m lines = texts_until rules (λ after count. []) m 0 lines

-- the meaning that an outcome leads on to, where it is no refusal
abbrev pub meaning_at : {M C : Type 0} → Outcome M C → (M → Option M) → Option M
meaning_at (Refuses cause) later = None
meaning_at (Goes m texts) later = later m

-- the meaning at the end of the lines that are left, after so many, where none of them is refused
abbrev pub meaning_after : {M C : Type 0} → Rules M C → M → ℕ → List ScriptLine → Option M
meaning_after rules m before [] = meaning_at (rules.close m before) Some
meaning_after rules m before (Refused cause ∷ rest) = None
meaning_after rules m before (Whole text ∷ rest) =
    meaning_at (rules.step m (before + 1) text) (λ after. meaning_after rules after (before + 1) rest)

-- the meaning at the end of all lines
abbrev pub meaning_of : {M C : Type 0} → Rules M C → M → List ScriptLine → Option M
meaning_of rules m lines = meaning_after rules m 0 lines

-- how it ends at an outcome
abbrev pub ending_at : {M C : Type 0} → ℕ → Outcome M C → (M → Ending C) → Ending C
ending_at number (Refuses cause) later = endings.Refused number cause
ending_at number (Goes m texts) later = later m

-- how it ends for the lines that are left, after so many
abbrev pub ending_after : {M C : Type 0} → Rules M C → M → ℕ → List ScriptLine → Ending C
ending_after rules m before [] = ending_at (before + 1) (rules.close m before) (λ after. endings.Whole before)
ending_after rules m before (Refused cause ∷ rest) = endings.Refused (before + 1) (rules.cause_of cause)
ending_after rules m before (Whole text ∷ rest) =
    ending_at (before + 1) (rules.step m (before + 1) text) (λ after. ending_after rules after (before + 1) rest)

-- how the whole output ends
abbrev pub ending_of : {M C : Type 0} → Rules M C → M → List ScriptLine → Ending C
ending_of rules m lines = ending_after rules m 0 lines
