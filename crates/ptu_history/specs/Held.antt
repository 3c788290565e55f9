-- What is held of the capacity at each moment, what a message pays, and what all messages may pay
-- (the project's own choice).
use Rattle.std.specs.Prelude.{ℕ, zero, suc, ◌+◌, ◌-◌, min, Bool, ◌&&◌, List, [], ◌∷◌, ◌++◌, Option, Some, None, ℤ, nat_lt, nat_le}
use Rattle.std.specs.List.{filter, find, sum_by, count_by}
use Rattle.ptu_units.specs.{declared.kind.Kind.{Kind}, Log.{rate_of}}
use Rattle.ptu_units.specs.declared.client.Client.{Client}
use Rattle.ptu_history.specs.History.{Record, Granted, Sent, moment_of, decides, capacity_in_force, is_sent}
use Rattle.ptu_history.specs.Lawful.{last_period, earliest}

-- the time that a grant holds: from `start`, included, to `end`, excluded
pub record Term : Type 0 where
  pub client : Client
  pub kind : Kind
  pub log : ℤ
  pub start : ℕ
  pub end : ℕ

-- a grant's end: the lesser of its `until` and the moment of the next decision on its client and
-- kind
abbrev pub end_of : ℕ → Option Record → ℕ
end_of until None = until
end_of until (Some next) = min until (moment_of next)

-- the terms of all grants, the oldest first
unfoldable pub terms : List Record → List Term
terms [] = []
terms (Granted n c k l u ∷ history) =
    record { client = c; kind = k; log = l; start = n; end = end_of u (find (decides c k) history) }
    ∷ terms history
terms (_ ∷ history) = terms history

-- the moment is in the term
abbrev pub is_in_term : ℕ → Term → Bool
is_in_term x term = nat_le term.start x && nat_lt x term.end

-- the sum of the rates that are held at the moment
unfoldable pub held : List Record → ℕ → ℕ
held history x = sum_by (λ term. rate_of term.log) (filter (is_in_term x) (terms history))

-- the record's moment is at most this one
abbrev pub is_by : ℕ → Record → Bool
is_by x r = nat_le (moment_of r) x

-- the capacity by the records up to the moment
unfoldable pub force : ℕ → List Record → ℕ → ℕ
force opening history x = capacity_in_force opening (filter (is_by x) history)

-- the sum of `force` over the whole moments below this one
unfoldable pub budget : ℕ → List Record → ℕ → ℕ
budget opening history zero = 0
budget opening history (suc x) = budget opening history x + force opening history x

-- what a message pays with: the time from `start`, included, to `end`, excluded
pub record Payment : Type 0 where
  pub at : ℕ
  pub client : Client
  pub kind : Kind
  pub start : ℕ
  pub end : ℕ

-- the payment of a message that is sent at the moment, after the history: the last period before
-- the earliest moment
abbrev pub payment : List Record → ℕ → Client → Kind → Payment
payment history x c k =
    record {
      at = x;
      client = c;
      kind = k;
      start = earliest history c k - last_period history c k;
      end = earliest history c k;
    }

-- the payments of the messages of the second list, which follows the first
unfoldable pub payments_after : List Record → List Record → List Payment
payments_after before [] = []
payments_after before (Sent x c k ∷ history) =
    payment before x c k ∷ payments_after (before ++ Sent x c k ∷ []) history
payments_after before (r ∷ history) = payments_after (before ++ r ∷ []) history

-- the payments of all messages, the oldest first
unfoldable pub payments : List Record → List Payment
payments history = payments_after [] history

-- how many messages were sent up to the moment
unfoldable pub count : List Record → ℕ → ℕ
count history x = count_by (λ r. is_sent r && is_by x r) history
