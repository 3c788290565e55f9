-- What a grandmaster keeps to, by its history (the budget and the payments are the project's own choice).
use Rattle.std.specs.Prelude.{◌≡◌, ℕ, ◌*◌, ◌<◌, ◌≤◌, List, ◌∷◌, ◌++◌, ℤ, Some, IsTrue}
use Rattle.std.specs.List.{AllPairs, Contains}
use Rattle.ptu_units.specs.{declared.{client.Client.{Client}, kind.Kind.{Kind}}, Time.{second}}
use Rattle.ptu_history.specs.{Held.{budget, count, force, held, payment, payments}, History.{Record, Granted, Sent}}
use Rattle.ptu_history.specs.Live.{last_decision, live}
use Rattle.ptu_laws.specs.Paid.{IsBefore, IsPaid}

-- a message stands in a history, behind these records
abbrev pub IsSentAfter : List Record → List Record → ℕ → Client → Kind → Type 0
IsSentAfter history before x c k = (after : List Record) × (history ≡ before ++ Sent x c k ∷ after)

-- a message is sent inside a grant that is live at its moment, and pays with one whole period of held time, its own
pub record PaysItsPeriod (history before : List Record) (x : ℕ) (c : Client) (k : Kind) : Type 0 where
  pub live : IsTrue (live before x c k)
  pub start : ℕ
  pub log : ℤ
  pub until : ℕ
  pub grant : last_decision before c k ≡ Some (Granted start c k log until)
  pub inside : (start ≤ x) × (x < until)
  pub paid : IsPaid history log (payment before x c k)
  pub own : Contains (payments history) (payment before x c k)

-- of a grandmaster that began with this capacity, at every moment: the rates that are held sum to at most the capacity in
-- force; each message pays its period, and no two of one client and kind pay with the same time; and the messages so far,
-- at sixteen seconds of one sixteenth each, are at most the budget
pub record KeepsPromises (capacity : ℕ) (history : List Record) : Type 0 where
  pub within : (x : ℕ) → held history x ≤ force capacity history x
  pub paid : (before : List Record) (x : ℕ) (c : Client) (k : Kind) → IsSentAfter history before x c k → PaysItsPeriod history before x c k
  pub apart : AllPairs IsBefore (payments history)
  pub budget : (x : ℕ) → count history x * (16 * second) ≤ budget capacity history x
