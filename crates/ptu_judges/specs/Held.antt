-- What a judge keeps of the record of its master.
use Rattle.std.specs.Prelude.{◌≡◌, ℕ, ◌+◌, ◌==◌, if◌then◌else◌, Bool, false, ◌||◌, nat_le, List, [], ◌∷◌, ◌++◌, length, Option, Some, IfSome}
use Rattle.std.specs.List.{AllByRecursion}
use Rattle.ptu_record.specs.declared.rule.{Rule.{Rule}, Rule.TheVariants.{Flag, Gap}}
use Rattle.ptu_record.specs.Record.{Entry, Record}
use Rattle.ptu_record.specs.Judges.{IsAssessment, flag, numbers, positions, rule_in_force}
use Rattle.ptu_record.specs.Marks.{Marks, clear_count, fresh_marks, marks_of}

-- its rule, where it has one; the greatest sequenceId with the sixteen marks behind it; and the
-- operator's last word
pub record Held : Type 0 where
  pub rule : Option Rule
  pub marks : Marks
  pub flag : Bool

-- a judge of this rule that nothing was told to
abbrev pub fresh : Rule → Held
fresh rule = record { rule = Some rule; marks = fresh_marks; flag = false }

-- what a judge of the rule Flag holds: it was told this last
abbrev pub flag_held : Bool → Held
flag_held unusable = record { rule = Some Flag; marks = fresh_marks; flag = unusable }

-- a judge of gaps: how many missing Syncs it does not bear, its marks, and what it was told last
pub record Gaps : Type 0 where
  pub missing : ℕ
  pub marks : Marks
  pub flag : Bool

abbrev pub gaps_held : Gaps → Held
gaps_held gaps = record { rule = Some (Gap gaps.missing); marks = gaps.marks; flag = gaps.flag }

-- what it finds: what it was told last, or that so many of its marks are clear
abbrev pub gaps_find : Gaps → Bool
gaps_find gaps = gaps.flag || nat_le gaps.missing (clear_count gaps.marks)

-- it is fresh where it has a rule
abbrev pub IsFresh : Held → Type 0
IsFresh held = IfSome held.rule (λ rule. held ≡ fresh rule)

-- what a judge of the rule has to keep of the record: the operator's last word since it took over; a
-- judge of gaps also which places the Syncs since then leave clear
abbrev pub Keeps : Rule → Record → Held → Type 0
Keeps Flag L held = held.flag ≡ flag L
Keeps (Gap n) L held = (held.flag ≡ flag L) × (held.marks ≡ marks_of (positions (numbers L)))

-- a judge stands for the record of its master: it has the rule that is in force there, and keeps what
-- a judge of this rule has to
pub record StandsFor (opening : Option Rule) (L : Record) (held : Held) : Type 0 where
  pub rule : held.rule ≡ rule_in_force opening L
  pub keeps : IfSome held.rule (λ rule. Keeps rule L held)

-- whatever record the judge stood for, it has come to stand for it with this entry of its master, whichever it is
abbrev pub Enters : (ℕ → Entry) → (old new : Held) → Type 0
Enters entry old new = (opening : Option Rule) (L : Record) (m : ℕ) → StandsFor opening L old → StandsFor opening (L ++ entry m ∷ []) new

-- whatever record the judge stands for, this is an assessment of it
abbrev pub Finds : Bool → Held → Type 0
Finds unusable held = (opening : Option Rule) (L : Record) → StandsFor opening L held → IsAssessment opening L unusable

-- what the judges of a stock hold: all are fresh, those of the first list of the rule Flag, those of
-- the second of Gap 4
pub record IsStock (flags gaps : List Held) : Type 0 where
  pub flags_fresh : AllByRecursion (λ held. held ≡ fresh Flag) flags
  pub gaps_fresh : AllByRecursion (λ held. held ≡ fresh (Gap 4)) gaps

-- of the judges of a stock those of the rule: there are judges of Flag, and of a gap of 4
abbrev pub of_rule : Rule → (flags gaps : List Held) → List Held
of_rule Flag flags gaps = flags
of_rule (Gap n) flags gaps = if n == 4 then gaps else []

-- a stock whose judges hold this has none of the rule left
abbrev pub HasNone : Rule → (flags gaps : List Held) → Type 0
HasNone rule flags gaps = length (of_rule rule flags gaps) ≡ 0

-- how many judges of Flag one of the rule is, and how many of a gap
abbrev pub as_flag : Rule → ℕ
as_flag Flag = 1
as_flag (Gap n) = 0

abbrev pub as_gap : Rule → ℕ
as_gap Flag = 0
as_gap (Gap n) = 1

-- from a stock whose judges hold this one of the rule was taken, which is fresh, and these are left
pub record HasTaken (rule : Rule) (flags gaps flags' gaps' : List Held) (judge : Held) : Type 0 where
  pub is_fresh : judge ≡ fresh rule
  pub flags_left : length flags' + as_flag rule ≡ length flags
  pub gaps_left : length gaps' + as_gap rule ≡ length gaps
  pub stock : IsStock flags' gaps'
