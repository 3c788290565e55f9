-- What a requester stands for: the record of a slave.
use Rattle.std.specs.Prelude.{◌≡◌, ◌≢◌, ℕ, Bool, true, false, List, ◌++◌, map, flat_map, length, Some}
use Rattle.std.specs.List.{slice_get}
use Rattle.ptu_units.specs.declared.kind.Kind.{Kind}
use Rattle.ptu_record.specs.{declared.wants.Wants.{Wants}, Lists.{places}, Grants.{live_kinds}}
use Rattle.ptu_record.specs.Record.{Entry, Record, record_of, Asked, Granted, Denied, Cancelled, Stopped}
use Rattle.ptu_requester.specs.declared.negotiations.Negotiations.{Negotiations}
use Rattle.ptu_requester.specs.Negotiation.{IsKept}

-- what a requester keeps: what is requested, and the negotiations with each master
pub record Kept : Type 0 where
  pub wants : Wants
  pub masters : List Negotiations

-- what is kept of a master is what its record says of each kind
pub record AreKept (L : Record) (ns : Negotiations) : Type 0 where
  pub announce : IsKept Kind.Announce L ns.announce
  pub sync : IsKept Kind.Sync L ns.sync
  pub delay : IsKept Kind.DelayResp L ns.delay

-- what is kept of each master is what the slave's record says of it
pub record StandsFor (r : Kept) (L : Record) : Type 0 where
  pub each : (m : ℕ) (ns : Negotiations) → slice_get r.masters m ≡ Some ns → AreKept (record_of m L) ns

-- whatever record it stood for, it has come to stand for it with these entries
abbrev pub Enters : (old new : Kept) → Record → Type 0
Enters old new entries = (L : Record) → StandsFor old L → StandsFor new (L ++ entries)

-- what is requested, and all other masters, are as before
pub record ChangesOnly (old new : Kept) (master : ℕ) : Type 0 where
  pub wants : new.wants ≡ old.wants
  pub masters : length new.masters ≡ length old.masters
  pub others : (m : ℕ) → m ≢ master → slice_get new.masters m ≡ slice_get old.masters m

-- the entry says something of asks or grants
abbrev pub is_negotiation : Entry → Bool
is_negotiation (Asked at master kind) = true
is_negotiation (Granted at master kind seconds) = true
is_negotiation (Denied at master kind) = true
is_negotiation (Cancelled at master kind) = true
is_negotiation (Stopped at) = true
is_negotiation e = false

-- a CANCEL at x of each grant that is live there, master by master
abbrev pub all_cancels : ℕ → Record → ℕ → Record
all_cancels masters L x =
    flat_map (λ m. map (Cancelled x m) (live_kinds (record_of m L) x)) (places masters)
