-- Grants that are live (IEEE 1588-2019 clause 16.1.4).
use Rattle.std.specs.Prelude.{◌≡◌, ℕ, Bool, false, not, ◌&&◌, List, [], ◌∷◌, Option, Some, ℤ, nat_lt, if◌then◌else◌}
use Rattle.std.specs.List.{AllPairs, filter, find, list_any}
use Rattle.ptu_units.specs.declared.kind.Kind.{Kind}
use Rattle.ptu_units.specs.{declared.client.Client.{Client}, Client.{same_lease}}
use Rattle.ptu_history.specs.History.{Record, Granted, is_decision, decides, lease_records}

-- the last decision on the client and kind
unfoldable pub last_decision : List Record → Client → Kind → Option Record
last_decision history c k = find is_decision (lease_records history c k)

-- the decision is a grant whose end is after the moment
abbrev pub is_live : ℕ → Option Record → Bool
is_live x (Some (Granted n c k l u)) = nat_lt x u
is_live x _ = false

-- a grant of the client and kind is live at the moment
unfoldable pub live : List Record → ℕ → Client → Kind → Bool
live history x c k = is_live x (last_decision history c k)

-- a grant: made at `start`, until `until` at most
pub record Grant : Type 0 where
  pub start : ℕ
  pub client : Client
  pub kind : Kind
  pub log : ℤ
  pub until : ℕ

-- the grants that no later decision on the same client and kind has ended or replaced, the oldest
-- first
unfoldable pub standing : List Record → List Grant
standing [] = []
standing (Granted n c k l u ∷ history) =
    if list_any (decides c k) history
    then standing history
    else record { start = n; client = c; kind = k; log = l; until = u } ∷ standing history
standing (_ ∷ history) = standing history

-- the grants that are live at the moment, the oldest first
unfoldable pub live_grants : List Record → ℕ → List Grant
live_grants history x = filter (λ g. nat_lt x g.until) (standing history)

-- the grant is one of the client and kind
abbrev pub is_of : Client → Kind → Grant → Bool
is_of c k g = same_lease c k g.client g.kind

-- of these grants, those of other clients and kinds
abbrev pub without : Client → Kind → List Grant → List Grant
without c k grants = filter (λ g. not (is_of c k g)) grants

-- the grant is one of the client and kind that is live at the moment
abbrev pub is_live_of : ℕ → Client → Kind → Grant → Bool
is_live_of x c k g = is_of c k g && nat_lt x g.until

-- the grant is the last decision on its client and kind
abbrev pub IsLastDecision : List Record → Grant → Type 0
IsLastDecision history g =
    last_decision history g.client g.kind ≡ Some (Granted g.start g.client g.kind g.log g.until)

-- no two of the grants are of one client and kind
abbrev pub IsDistinctByLease : List Grant → Type 0
IsDistinctByLease grants =
    AllPairs (λ a b. same_lease a.client a.kind b.client b.kind ≡ false) grants
