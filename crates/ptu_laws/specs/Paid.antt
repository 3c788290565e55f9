-- When a message's payment is made of held time (the project's own choice).
use Rattle.std.specs.{Prelude.{◌≡◌, ℕ, ◌+◌, ◌<◌, ◌≤◌, Bool, ◌&&◌, List, ℤ, IsTrue}, List.{list_any}}
use Rattle.std.specs.Ordering.{int_eq}
use Rattle.ptu_units.specs.{declared.kind.Kind.{Kind}, Log.{IsLogOf, period_of}}
use Rattle.ptu_units.specs.{declared.client.Client.{Client}, Client.{same_lease}}
use Rattle.ptu_history.specs.{History.{Record}, Held.{Payment, Term, is_in_term, terms}}

-- the term is of the client and kind at the logarithm, and the moment is in it
abbrev pub is_term_at : Client → Kind → ℤ → ℕ → Term → Bool
is_term_at c k l x term =
    same_lease c k term.client term.kind && int_eq l term.log && is_in_term x term

-- the client and kind hold the rate of the logarithm at the moment
unfoldable pub is_held_at : List Record → Client → Kind → ℤ → ℕ → Bool
is_held_at history c k l x = list_any (is_term_at c k l x) (terms history)

-- the payment is one whole period of the logarithm, at or after zero, ends at or before its
-- message's moment, and each moment of it is held time of its client and kind at that logarithm
pub record IsPaid (history : List Record) (log : ℤ) (payment : Payment) : Type 0 where
  pub in_range : IsLogOf payment.kind log
  pub period : payment.start + period_of log ≡ payment.end
  pub in_time : payment.end ≤ payment.at
  pub held : (x : ℕ) → payment.start ≤ x → x < payment.end →
      IsTrue (is_held_at history payment.client payment.kind log x)

-- of two payments of one client and kind, the later one begins where the earlier one ends, or after
-- it
abbrev pub IsBefore : Payment → Payment → Type 0
IsBefore a b = IsTrue (same_lease a.client a.kind b.client b.kind) → a.end ≤ b.start
