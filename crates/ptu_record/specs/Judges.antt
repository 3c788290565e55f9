-- Whether a judge finds its master unusable. The two rules are this project's own choice; the sequenceId of Sync messages is that of IEEE 1588-2019 clause 7.3.7.
-- A record is the record of one master, but in the last section.
use Rattle.std.specs.Prelude.{◌≡◌, ℕ, ◌+◌, ◌-◌, ◌%◌, Bool, true, false, not, ◌&&◌, ◌||◌, cond, List, [], ◌∷◌, ◌++◌, length, filter, filter_map, fold, slice_index_or, Option, Some, None, unwrap_or, option_map, MatchOption, ⊤, ◌==◌, nat_lt, nat_le}
use Rattle.std.specs.List.{list_any, AllZip}
use Rattle.ptu_record.specs.declared.rule.{Rule.{Rule}, Rule.TheVariants.{Flag, Gap}}
use Rattle.ptu_record.specs.Lists.{last, maximum, since_last, places}
use Rattle.ptu_record.specs.Record.{Entry, Record, record_of, Sync, Told, Judge}

-- a judge takes over here
abbrev pub is_judge : Entry → Bool
is_judge (Judge at master rule) = true
is_judge e = false

abbrev pub rule_given : Entry → Option (Option Rule)
rule_given (Judge at master rule) = Some rule
rule_given e = None

abbrev pub told_flag : Entry → Option Bool
told_flag (Told at master unusable) = Some unusable
told_flag e = None

abbrev pub sync_number : Entry → Option ℕ
sync_number (Sync at master number) = Some number
sync_number e = None

-- the rule of the judge in force: that of the last one that took over, or of the one at the opening
abbrev pub rule_in_force : Option Rule → Record → Option Rule
rule_in_force opening L = unwrap_or (last (filter_map rule_given L)) opening

-- the operator's last word since the judge took over, or false
abbrev pub flag : Record → Bool
flag L = unwrap_or (last (filter_map told_flag (since_last is_judge L))) false

-- the sequenceIds of the Syncs since the judge took over
abbrev pub numbers : Record → List ℕ
numbers L = filter_map sync_number (since_last is_judge L)

-- the position of a first Sync is its own number and 65536 more, so that the positions up to 15 behind it are numbers too
abbrev pub first_position : ℕ → ℕ
first_position number = 65536 + number

-- how far the number is ahead of the position, modulo 65536
abbrev pub distance : ℕ → ℕ → ℕ
distance top number = (number + 65536 - top % 65536) % 65536

-- the positions of all Syncs so far once the next number has one: it is up to 32767 ahead of the greatest, or up to 15 behind it; else all earlier positions are forgotten
abbrev pub next_positions : List ℕ → ℕ → List ℕ
next_positions [] number = first_position number ∷ []
next_positions (p ∷ ps) number =
    let top = maximum (p ∷ ps) in
    let d = distance top number in
    cond (nat_le d 32767) (p ∷ ps ++ (top + d) ∷ [])
    (cond (nat_le (65536 - d) 15) (p ∷ ps ++ (top - (65536 - d)) ∷ []) (first_position number ∷ []))

-- the positions of Syncs with these numbers, in order; what was forgotten is not among them, and the first stands at the head
abbrev pub positions : List ℕ → List ℕ
positions numbers = fold next_positions [] numbers

-- the place is clear: so far behind the greatest position lies one that is above the first, and no Sync has it
abbrev pub is_clear : List ℕ → ℕ → Bool
is_clear [] i = false
is_clear (first ∷ ps) i = nat_lt (first + i) (maximum (first ∷ ps)) && not (list_any (λ p. p + i == maximum (first ∷ ps)) (first ∷ ps))

-- the places from 0 to 15 that are clear
abbrev pub clear_places : List ℕ → List ℕ
clear_places ps = filter (is_clear ps) (places 16)

-- what a judge of the rule finds after the record: what the operator said last; for a judge of gaps also that so many places are clear
abbrev pub assessment : Rule → Record → Bool
assessment Flag L = flag L
assessment (Gap n) L = flag L || nat_le n (length (clear_places (positions (numbers L))))

-- the judge in force may find this; one of a maker's own may find anything
abbrev pub IsAssessment : Option Rule → Record → Bool → Type 0
IsAssessment opening L unusable = MatchOption (rule_in_force opening L) ⊤ (λ rule. unusable ≡ assessment rule L)

-- ---- in the record of all masters

-- the rule of the master's first judge, where it has one
abbrev pub opening_of : List (Option Rule) → ℕ → Option Rule
opening_of openings m = slice_index_or openings m None

-- each may be what the judge of its master finds, in the order of these masters
abbrev pub AreAssessments : List (Option Rule) → Record → List ℕ → List Bool → Type 0
AreAssessments openings L masters assessments = AllZip (λ m a. IsAssessment (opening_of openings m) (record_of m L) a) masters assessments

-- what a judge finds whose rule is known; of another judge, that the master is usable
abbrev pub ruled_assessment : List (Option Rule) → Record → ℕ → Bool
ruled_assessment openings L m = unwrap_or (option_map (λ rule. assessment rule (record_of m L)) (rule_in_force (opening_of openings m) (record_of m L))) false
