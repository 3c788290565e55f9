-- What a grandmaster decided and sent, from the front: the first record is the oldest (the
-- project's own choice; the decisions are those of IEEE 1588-2019 clause 16.1).
use Rattle.std.specs.Prelude.{ℕ, Bool, true, false, List, [], ◌∷◌, reverse, ℤ, cond}
use Rattle.std.specs.List.{filter}
use Rattle.ptu_units.specs.declared.kind.Kind.{Kind}
use Rattle.ptu_units.specs.{declared.client.Client.{Client}, Client.{same_lease}}

-- one thing that a grandmaster decided or did
pub data Record : Type 0 where
  -- at this moment the client was granted the kind at this logarithm until that moment
  Granted : (at : ℕ) (client : Client) (kind : Kind) (log : ℤ) (until : ℕ) → Record
  -- an ask of the client within the profile did not fit
  Short : (at : ℕ) (client : Client) → Record
  -- a CANCEL was decided, whether or not a grant was live
  Ended : (at : ℕ) (client : Client) (kind : Kind) → Record
  -- the capacity became this
  Capacity : (at capacity : ℕ) → Record
  -- a live grant was shed
  Shed : (at : ℕ) (client : Client) (kind : Kind) → Record
  -- the table took a turn or a Delay_Req
  Looked : (at table : ℕ) → Record
  -- a timing message of the kind was handed to the port for the client, whether or not the send
  -- failed
  Sent : (at : ℕ) (client : Client) (kind : Kind) → Record

-- the moment of a record
abbrev pub moment_of : Record → ℕ
moment_of (Granted n c k l u) = n
moment_of (Short n c) = n
moment_of (Ended n c k) = n
moment_of (Capacity x capacity) = x
moment_of (Shed x c k) = x
moment_of (Looked x j) = x
moment_of (Sent x c k) = x

-- the record is a decision on some client and kind
abbrev pub is_decision : Record → Bool
is_decision (Granted n c k l u) = true
is_decision (Ended n c k) = true
is_decision (Shed x c k) = true
is_decision _ = false

-- the record is a decision on this client and kind, or a message sent to them
abbrev pub concerns : Client → Kind → Record → Bool
concerns c k (Granted n c' k' l u) = same_lease c k c' k'
concerns c k (Ended n c' k') = same_lease c k c' k'
concerns c k (Shed x c' k') = same_lease c k c' k'
concerns c k (Sent x c' k') = same_lease c k c' k'
concerns c k _ = false

-- the record is a decision on this client and kind
abbrev pub decides : Client → Kind → Record → Bool
decides c k r = cond (is_decision r) (concerns c k r) false

-- what concerns the client and kind, the latest record first
unfoldable pub lease_records : List Record → Client → Kind → List Record
lease_records history c k = reverse (filter (concerns c k) history)

-- the record is a message
abbrev pub is_sent : Record → Bool
is_sent (Sent x c k) = true
is_sent _ = false

-- the record changes the capacity
abbrev pub is_change : Record → Bool
is_change (Capacity x capacity) = true
is_change _ = false

-- the capacity in force: the number of the last change, or the opening capacity
unfoldable pub capacity_in_force : ℕ → List Record → ℕ
capacity_in_force opening [] = opening
capacity_in_force opening (Capacity x capacity ∷ history) = capacity_in_force capacity history
capacity_in_force opening (_ ∷ history) = capacity_in_force opening history
