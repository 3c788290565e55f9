-- What a table stands for by its own records alone, which need no book.
use Rattle.std.specs.Prelude.{◌≡◌, ℕ, ◌≤◌, List, [], ◌∷◌, ◌++◌}
use Rattle.ptu_units.specs.{declared.client.Client.{Client}, Client.{table_of}}
use Rattle.ptu_history.specs.{Moments.{book_moment}, Step.{verdict_records}}
use Rattle.ptu_history.specs.History.{Record, Granted, Short, Ended, Capacity, Shed, Looked, Sent}
use Rattle.ptu_shard.specs.Table.{Kept, StandsBeside, StandsFor}
use Rattle.ptu_admit.specs.{declared.verdict.Verdict.{Verdict}, Verdict.{verdict_of}}

-- the table stands for the history, no decision of which is after the table's moment
pub record StandsAlone {P : Type 0} (j : ℕ) (table : Kept P) (history : List Record) : Type 0 where
  pub stands : StandsFor j table history
  pub reached : book_moment history ≤ table.moment

-- the record is a decision on a client of the table, or on the capacity, at a moment that is not before this one
abbrev pub IsDecisionFrom : ℕ → ℕ → Record → Type 0
IsDecisionFrom j from (Granted n c k l u) = (table_of c ≡ j) × (from ≤ n)
IsDecisionFrom j from (Short n c) = (table_of c ≡ j) × (from ≤ n)
IsDecisionFrom j from (Ended n c k) = (table_of c ≡ j) × (from ≤ n)
IsDecisionFrom j from (Capacity x capacity) = from ≤ x
IsDecisionFrom j from (Shed x c k) = (table_of c ≡ j) × (from ≤ x)
IsDecisionFrom j from (Looked x i) = ⊥
IsDecisionFrom j from (Sent x c k) = ⊥

-- so is each of the records
abbrev pub AreDecisionsFrom : ℕ → ℕ → List Record → Type 0
AreDecisionsFrom j from [] = Unit {0}
AreDecisionsFrom j from (r ∷ rs) = IsDecisionFrom j from r × AreDecisionsFrom j from rs

-- whatever history the table stands for alone, it goes on with decisions, at moments that it had reached or later
abbrev pub GoesOnAlone : {P : Type 0} → ℕ → Kept P → Kept P → Type 0
GoesOnAlone j old new =
    (history : List Record) → StandsAlone j old history →
    (more : List Record) × AreDecisionsFrom j old.moment more × StandsAlone j new (history ++ more)

-- an ask of the client was decided at the moment in the client's table, and another table is as it was
pub record IsDecidedIn {P : Type 0} (j at : ℕ) (client : Client) (verdict : Verdict) (old new : Kept P) : Type 0 where
  pub own : table_of client ≡ j → (history : List Record) → StandsBeside at j old history →
      StandsBeside at j new (history ++ verdict_records at client (verdict_of verdict))
  pub apart : (table_of client ≡ j → ⊥) → new ≡ old
