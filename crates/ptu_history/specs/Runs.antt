-- Grants that follow on from one another, and the messages sent since the first of them (the
-- project's own choice).
use Rattle.std.specs.Prelude.{◌≡◌, ℕ, ◌%◌, Bool, true, false, not, ◌&&◌, List, [], ◌∷◌, ◌++◌, Option, Some, None, length, nat_lt, if◌then◌else◌}
use Rattle.std.specs.{List.{filter, find}, Option.{option_map_or}, Ordering.{int_eq}}
use Rattle.ptu_units.specs.declared.{client.Client.{Client}, kind.Kind.{Kind}}
use Rattle.ptu_history.specs.History.{Record, Granted, moment_of, is_decision, lease_records}
use Rattle.ptu_history.specs.Live.{is_live}

-- a grant follows on from the decision before it where that is a grant that is live at its moment
abbrev pub follows : Record → Option Record → Bool
follows (Granted n c k l u) before = is_live n before
follows _ before = false

-- so does one that also has the logarithm of the grant before it
abbrev pub continues : Record → Option Record → Bool
continues (Granted n c k l u) (Some (Granted n' c' k' l' u')) = nat_lt n u' && int_eq l l'
continues _ before = false

-- of what concerns a client and kind, the latest first: the earliest record of the unbroken run
-- that ends in the last decision
abbrev pub first_of_run : (Record → Option Record → Bool) → List Record → Option Record
first_of_run goes_on [] = None
first_of_run goes_on (r ∷ rs) =
    if is_decision r && not (goes_on r (find is_decision rs))
    then Some r
    else first_of_run goes_on rs

-- of the same: the moments of the messages sent after that record, the latest first
abbrev pub sent_in_run : (Record → Option Record → Bool) → List Record → List ℕ
sent_in_run goes_on [] = []
sent_in_run goes_on (r ∷ rs) =
    if is_decision r
    then (if goes_on r (find is_decision rs) then sent_in_run goes_on rs else [])
    else moment_of r ∷ sent_in_run goes_on rs

-- the first record of the run of grants that follow on
unfoldable pub root : List Record → Client → Kind → Option Record
root history c k = first_of_run follows (lease_records history c k)

-- the moment of the first record of the chain: the run of grants that follow on with one logarithm
unfoldable pub chain : List Record → Client → Kind → ℕ
chain history c k = option_map_or moment_of (first_of_run continues (lease_records history c k)) 0

-- the moments of the messages sent since the chain's first record, the latest first
unfoldable pub sent_in_chain : List Record → Client → Kind → List ℕ
sent_in_chain history c k = sent_in_run continues (lease_records history c k)

-- the sequence number of the next message: how many were sent since the root, modulo 65536
unfoldable pub sequence_number : List Record → Client → Kind → ℕ
sequence_number history c k = length (sent_in_run follows (lease_records history c k)) % 65536

-- of decisions, the latest first: each goes on from the one before it
abbrev pub Unbroken : (Record → Option Record → Bool) → List Record → Type 0
Unbroken goes_on [] = Unit {0}
Unbroken goes_on (r ∷ []) = Unit {0}
Unbroken goes_on (r ∷ before ∷ rs) =
    (goes_on r (Some before) ≡ true) × Unbroken goes_on (before ∷ rs)

-- of what concerns a client and kind, the latest first, the run that ends in the last decision: it
-- begins at `first`, a decision that does not go on from the one before it, and `later`, what came
-- after `first`, is unbroken from it on
pub record IsRun (goes_on : Record → Option Record → Bool) (records : List Record) (first : Record)
    (later : List Record) : Type 0 where
  pub earlier : List Record
  pub parts : records ≡ later ++ first ∷ earlier
  pub decided : is_decision first ≡ true
  pub is_first : goes_on first (find is_decision earlier) ≡ false
  pub unbroken : Unbroken goes_on (filter is_decision (later ++ first ∷ []))
