-- How often each table was turned, and of what the history of a table is made (the rule is the project's own choice).
use Rattle.std.specs.Prelude.{◌≡◌, ℕ, suc, zero, ◌+◌, ◌%◌, ◌==◌, if◌then◌else◌, List, [], ◌∷◌, ◌++◌, map, Option, Some, None, option_map}
use Rattle.std.specs.{List.{AllByRecursion}, Option.{option_or}}
use Rattle.ptu_units.specs.{declared.client.Client.{Client}, Client.{table_of}}
use Rattle.ptu_history.specs.History.{Record, Granted, Short, Ended, Capacity, Shed, Looked, Sent}
use Rattle.ptu_history.specs.{Step.{answer_records, delay_answer}, Turns.{due_grants, sent_record}}
use Rattle.ptu_shared.specs.declared.opening.TurnBlanks.{TurnBlanks}

-- ---- of what a history is made

-- what was done to a table: something was decided, which is an ask, a cancel or a change of capacity; a Delay_Req of the client was
-- answered at the moment; or the table was turned then
pub data TablePart : Type 0 where
  Decided : TablePart
  DelayReq : (moment : ℕ) (client : Client) → TablePart
  Turn : (moment : ℕ) → TablePart

-- the record is that of a decision
abbrev pub IsDecision : Record → Type 0
IsDecision (Granted n c k l u) = Unit {0}
IsDecision (Short n c) = Unit {0}
IsDecision (Ended n c k) = Unit {0}
IsDecision (Capacity x capacity) = Unit {0}
IsDecision (Shed x c k) = Unit {0}
IsDecision (Looked x i) = ⊥
IsDecision (Sent x c k) = ⊥

-- these records of table j, behind those before, are what the part has left: an answer is a look at the table, and a message where one
-- is lawful; a turn is a look at it, and the message of each grant that is due
abbrev pub IsPart : ℕ → List Record → List Record → TablePart → Type 0
IsPart j before records Decided = AllByRecursion IsDecision records
IsPart j before records (DelayReq x c) = (table_of c ≡ j) × (records ≡ Looked x j ∷ answer_records x c (delay_answer before x c))
IsPart j before records (Turn x) = records ≡ Looked x j ∷ map (sent_record x) (due_grants before x j)

-- the records that follow these are those of the parts, one part behind the other
abbrev pub IsMadeOf : ℕ → List Record → List Record → List TablePart → Type 0
IsMadeOf j before records [] = records ≡ []
IsMadeOf j before records (part ∷ parts) =
    (first : List Record) × (rest : List Record) × (records ≡ first ++ rest) × IsPart j before first part × IsMadeOf j (before ++ first) rest parts

-- how many turns are among the parts
abbrev pub turns_in : List TablePart → ℕ
turns_in [] = 0
turns_in (Turn x ∷ parts) = suc (turns_in parts)
turns_in (part ∷ parts) = turns_in parts

-- ---- who may turn which table

-- how often a table was turned, of each table that someone may turn
pub record Turns : Type 0 where
  pub t0 : Option ℕ
  pub t1 : Option ℕ
  pub t2 : Option ℕ
  pub t3 : Option ℕ

-- who may turn none, and who may turn all of them, none of which was turned yet
abbrev pub no_turns : Turns
no_turns = record { t0 = None; t1 = None; t2 = None; t3 = None }

abbrev pub all_turns : Turns
all_turns = record { t0 = Some 0; t1 = Some 0; t2 = Some 0; t3 = Some 0 }

-- the count of the table of this index
abbrev pub turns_of : ℕ → Turns → Option ℕ
turns_of zero turns = turns.t0
turns_of (suc zero) turns = turns.t1
turns_of (suc (suc zero)) turns = turns.t2
turns_of (suc (suc (suc n))) turns = turns.t3

-- the counts with so many turns more of the table of this index
abbrev pub with_turn : ℕ → Turns → Turns
with_turn zero turns = record turns { t0 = option_map (λ n. n + 1) turns.t0 }
with_turn (suc zero) turns = record turns { t1 = option_map (λ n. n + 1) turns.t1 }
with_turn (suc (suc zero)) turns = record turns { t2 = option_map (λ n. n + 1) turns.t2 }
with_turn (suc (suc (suc n))) turns = record turns { t3 = option_map (λ n. n + 1) turns.t3 }

-- the counts with so many turns more of each table
abbrev pub after_rounds : ℕ → Turns → Turns
after_rounds rounds turns = record {
  t0 = option_map (λ n. n + rounds) turns.t0;
  t1 = option_map (λ n. n + rounds) turns.t1;
  t2 = option_map (λ n. n + rounds) turns.t2;
  t3 = option_map (λ n. n + rounds) turns.t3;
}

-- the counts of the tables j with j mod `lanes` = `lane`
abbrev pub own_turns : ℕ → ℕ → Turns → Turns
own_turns lanes lane turns = record {
  t0 = if 0 % lanes == lane then turns.t0 else None;
  t1 = if 1 % lanes == lane then turns.t1 else None;
  t2 = if 2 % lanes == lane then turns.t2 else None;
  t3 = if 3 % lanes == lane then turns.t3 else None;
}

-- the counts of two that may turn different tables
abbrev pub both_turns : Turns → Turns → Turns
both_turns first second = record {
  t0 = option_or first.t0 second.t0;
  t1 = option_or first.t1 second.t1;
  t2 = option_or first.t2 second.t2;
  t3 = option_or first.t3 second.t3;
}

-- ---- the ledgers of turns

-- the name of the ledger of the table of this index, where these blanks become the ledgers
abbrev pub turn_name : TurnBlanks → ℕ → ℕ
turn_name blanks zero = blanks.t0.name
turn_name blanks (suc zero) = blanks.t1.name
turn_name blanks (suc (suc zero)) = blanks.t2.name
turn_name blanks (suc (suc (suc n))) = blanks.t3.name

-- the blanks become the ledgers of these names, with one part each
pub record AreTurnBlanks (names : ℕ → ℕ) (blanks : TurnBlanks) : Type 0 where
  pub name0 : blanks.t0.name ≡ names 0
  pub name1 : blanks.t1.name ≡ names 1
  pub name2 : blanks.t2.name ≡ names 2
  pub name3 : blanks.t3.name ≡ names 3
  pub parts : (blanks.t0.parts ≡ 1) × (blanks.t1.parts ≡ 1) × (blanks.t2.parts ≡ 1) × (blanks.t3.parts ≡ 1)
