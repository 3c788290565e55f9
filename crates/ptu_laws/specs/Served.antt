-- What a client gets of a kind of message, and the time in which it holds a grant of it, in
-- nanoseconds (IEEE 1588-2019 clause 16.1; the rule is the project's own choice).
use Rattle.std.specs.Prelude.{ℕ, zero, suc, ◌+◌, Bool, false, ◌&&◌, List, [], ◌∷◌, ◌++◌, Option, Some, ℤ, if◌then◌else◌}
use Rattle.std.specs.{List.{list_any}, Ordering.{int_eq}}
use Rattle.ptu_units.specs.declared.kind.Kind.{Kind}
use Rattle.ptu_units.specs.{declared.client.Client.{Client}, Client.{same_lease}}
use Rattle.ptu_history.specs.{History.{Record, Granted, Sent}, Live.{last_decision}}
use Rattle.ptu_history.specs.{Lawful.{last_period}, Held.{Term, is_by, is_in_term, terms}}
use Rattle.ptu_laws.specs.Paid.{is_held_at}

-- how many of the whole moments below this one pass the test
unfoldable pub count_below : ℕ → (ℕ → Bool) → ℕ
count_below zero test = 0
count_below (suc x) test = count_below x test + (if test x then 1 else 0)

-- the moment is in a term of the client and kind
abbrev pub is_own_term : Client → Kind → ℕ → Term → Bool
is_own_term c k x term = same_lease c k term.client term.kind && is_in_term x term

-- the client holds a grant of the kind at the moment
unfoldable pub is_held : List Record → Client → Kind → ℕ → Bool
is_held history c k x = list_any (is_own_term c k x) (terms history)

-- the nanoseconds before the moment in which the client holds a grant of the kind
unfoldable pub held_time : List Record → Client → Kind → ℕ → ℕ
held_time history c k x = count_below x (is_held history c k)

-- the nanoseconds before the moment in which the client holds a grant of the kind at the logarithm
unfoldable pub held_time_at : List Record → Client → Kind → ℤ → ℕ → ℕ
held_time_at history c k l x = count_below x (is_held_at history c k l)

-- the record is a message of the kind to the client
abbrev pub is_sent_to : Client → Kind → Record → Bool
is_sent_to c k (Sent x d j) = same_lease c k d j
is_sent_to c k _ = false

-- over the messages of the kind to the client, up to the moment, in the second list, which follows
-- the first: the sum of what is counted for each by the records before it
unfoldable pub sum_sent : (List Record → ℕ) → Client → Kind → ℕ → List Record → List Record → ℕ
sum_sent counted c k x before [] = 0
sum_sent counted c k x before (r ∷ history) =
    (if is_sent_to c k r && is_by x r then counted before else 0)
    + sum_sent counted c k x (before ++ r ∷ []) history

-- the decision is a grant at the logarithm
abbrev pub is_grant_at : ℤ → Option Record → Bool
is_grant_at l (Some (Granted n c k i u)) = int_eq l i
is_grant_at l _ = false

-- the messages of the kind to the client up to the moment, each as long as the period of the last
-- grant before it
unfoldable pub periods_sent : List Record → Client → Kind → ℕ → ℕ
periods_sent history c k x = sum_sent (λ before. last_period before c k) c k x [] history

-- the number of messages of the kind to the client up to the moment under grants at the logarithm
unfoldable pub sent_at : List Record → Client → Kind → ℤ → ℕ → ℕ
sent_at history c k l x =
    sum_sent (λ before. if is_grant_at l (last_decision before c k) then 1 else 0) c k x [] history
