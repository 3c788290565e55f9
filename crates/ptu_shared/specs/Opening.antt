-- What is known of the port of a table, which stands behind a lock: what it was like when it was opened, and how many of its sends
-- failed since.
use Rattle.std.specs.Prelude.{◌≡◌, ℕ, ◌+◌, ◌-◌, ◌^◌, ◌≤◌, ◌<◌, min, Bool, true, List, [], Option, Some, None}
use Rattle.ptu_outside.specs.declared.{arrival.Arrival.{Arrival}, port.Port.{Ghosts as Ports}}
use Rattle.ptu_outside.specs.Departure.{Departure}
use Rattle.ptu_profile.specs.declared.grandmaster.GmConfig.{GmConfig}
use Rattle.ptu_outside.specs.Faults.{HasRisenBy, HasRisenJust, HasNotFallen}

-- what a port was sent and what waits there, where it tells that, and its count of faults
pub record Seen : Type 0 where
  pub sent : Option (List Departure)
  pub waiting : Option (List Arrival)
  pub faults : ℕ

-- what is seen of this port
abbrev pub seen_of : {P : Type 0} → Ports P → P → Seen
seen_of ports port = record { sent = ports.sent port; waiting = ports.waiting port; faults = ports.faults port }

-- what waits at each of the four tables' ports is what waited there when it was opened
abbrev pub AreAsOpened : {P : Type 0} → Ports P → (ℕ → Seen) → P → P → P → P → Type 0
AreAsOpened ports opened p0 p1 p2 p3 =
    (ports.waiting p0 ≡ (opened 0).waiting) × (ports.waiting p1 ≡ (opened 1).waiting) × (ports.waiting p2 ≡ (opened 2).waiting)
    × (ports.waiting p3 ≡ (opened 3).waiting)

-- a port that was sent nothing and at which nothing waits, and one that does not tell; neither has had a fault
abbrev pub idle_port : Seen
idle_port = record { sent = Some []; waiting = Some []; faults = 0 }

abbrev pub untold_port : Seen
untold_port = record { sent = None; waiting = None; faults = 0 }

-- a configuration for examples and tests, that of the samples of `ptu_profile`
abbrev pub sample_config : GmConfig
sample_config = record { identity = record { clock = 0x0a00000000000001; port = 1 }; domain = 4; class = 84; max_duration = 300; epoch = 0 }

-- so many calls of a port failed between these two counts of its faults, each of which is a fault, and just one where `once` says
-- so; and there are no other faults. A count that stands at its end is taken as risen by as much.
pub record HaveFailed (once : Bool) (failed old new : ℕ) : Type 0 where
  pub risen : HasRisenBy failed old new
  pub just : once ≡ true → HasRisenJust failed old new
  pub quiet : failed ≡ 0 → new ≡ old
  pub no_fall : HasNotFallen old new

-- the same, in a form that a type can keep: no fact in it can hold in two ways
pub record AreCounted (once : Bool) (failed old new : ℕ) : Type 0 where
  pub risen : min (old + failed) (2 ^ 64 - 1) ≤ new
  pub just : once ≡ true → new < 2 ^ 64 - 1 → new ≡ old + failed
  pub quiet : failed ≡ 0 → new ≡ old
  pub no_fall : old ≤ new
  pub stands : 2 ^ 64 - 1 ≤ old → new ≡ old
