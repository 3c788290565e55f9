-- The rates of the grants that are live, by when they end.
use Rattle.std.specs.Prelude.{◌≡◌, ℕ, not, nat_lt, Bool, true, ◌&&◌, ◌==◌, List, Option, None, Some}
use Rattle.std.specs.{List.{All, sum_by}, Map.{values_of}}
use Rattle.ptu_units.specs.{declared.kind.Kind.{Kind}, Log.{rate_of}}
use Rattle.ptu_units.specs.{declared.client.Client.{Client}, Client.{same_lease}}
use Rattle.ptu_history.specs.{History.{Record}, Live.{Grant, is_of, live_grants}}
use Rattle.ptu_trail.specs.declared.{known.Lease.{Lease}, live.End.{End}}

-- the end of a grant, and its rate
abbrev pub end_entry_of : Grant → End × ℕ
end_entry_of g = (record { until = g.until; client = g.client; kind = g.kind }, rate_of g.log)

-- the sum of the rates, in sixteenths of a message per second
abbrev pub total_of : List (End × ℕ) → ℕ
total_of entries = sum_by (λ n. n) (values_of entries)

-- the end is after the moment
abbrev pub is_live_entry : ℕ → End × ℕ → Bool
is_live_entry n e = nat_lt n e.0.until

-- the entry has another end than this one
abbrev pub is_other_entry : End → End × ℕ → Bool
is_other_entry end e =
    not (end.until == e.0.until && same_lease end.client end.kind e.0.client e.0.kind)

-- the entries are those of the grants, in an order that is left open: whatever is summed over both
-- comes to the same
abbrev pub AreOf : List Grant → List (End × ℕ) → Type 0
AreOf grants entries =
    (weight : End × ℕ → ℕ) → sum_by weight entries ≡ sum_by (λ g. weight (end_entry_of g)) grants

-- the entries are those of the grants that are live at the moment after the history
abbrev pub AreLive : List Record → ℕ → List (End × ℕ) → Type 0
AreLive history m entries = AreOf (live_grants history m) entries

-- the lease is over at this moment; without one there is none
abbrev pub EndsAt : Option Lease → ℕ → Type 0
EndsAt None u = ⊥
EndsAt (Some lease) u = lease.until ≡ u

-- the lease is that of the grants of the client and kind among these, as far as one is
abbrev pub IsLatestLeaseOf : Client → Kind → Option Lease → List Grant → Type 0
IsLatestLeaseOf c k lease grants = All (λ g. is_of c k g ≡ true → EndsAt lease g.until) grants
