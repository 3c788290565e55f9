-- What a lane takes of what waits at its port, and of the moments of its clock.
use Rattle.std.specs.Prelude.{◌≡◌, ℕ, suc, zero, ◌+◌, ◌*◌, ◌%◌, ◌==◌, ◌≤◌, if◌then◌else◌, List, ◌++◌, length, drop, Option, Some, IfSome, option_map, is_some}
use Rattle.ptu_outside.specs.declared.{arrival.Arrival.{Arrival}, clock.Clock.{Ghosts as Clocks}}
use Rattle.ptu_outside.specs.{declared.port.Port.{Ghosts as Ports}, Telling.{IfTold}}
use Rattle.ptu_shared.specs.{Opening.{HaveFailed}, Turning.{Turns}}
use Rattle.ptu_outside.specs.Rounds.{moments_after}

-- between what waited at a port and what is left, where it still tells that, it gave the first datagrams: so many, or all where
-- there are fewer
abbrev pub GaveFirst : ℕ → Option (List Arrival) → Option (List Arrival) → Type 0
GaveFirst count waiting left = IfSome left (λ later. (waited : List Arrival) × (waiting ≡ Some waited) × (later ≡ drop count waited))

-- so many moments were taken of a clock, where it still tells them
abbrev pub PassedBy : ℕ → Option (List ℕ) → Option (List ℕ) → Type 0
PassedBy count old new = IfTold new (option_map (moments_after count) old)

-- whatever became of the port's count of faults, and whether or not it tells what waits: at most so many datagrams were taken of
-- it, the first that waited where it still tells that, each at a new moment of the clock, of which so many more were taken
pub record Took {P C : Type 0} (ports : Ports P) (clocks : Clocks C) (most more : ℕ) (port port' : P) (clock clock' : C) : Type 0 where
  pub datagrams : List Arrival
  pub few : length datagrams ≤ most
  pub given : IfSome (ports.waiting port') (λ later. ports.waiting port ≡ Some (datagrams ++ later))
  pub moments : PassedBy (length datagrams + more) (clocks.moments clock) (clocks.moments clock')

-- of the receives of a port in so many rounds at most one a round failed, since a failed receive ends its round; each is a fault
abbrev pub MissedFew : {P : Type 0} → Ports P → ℕ → P → P → Type 0
MissedFew ports rounds port port' = (missed : ℕ) × (missed ≤ rounds) × HaveFailed ports.counts_once missed (ports.faults port) (ports.faults port')

-- just so many datagrams were taken so, nothing was sent at the port, and so many receives failed
pub record HasTaken {P C : Type 0} (ports : Ports P) (clocks : Clocks C) (count missed : ℕ) (port port' : P) (clock clock' : C) : Type 0 where
  pub taken : List Arrival
  pub many : length taken ≡ count
  pub given : IfSome (ports.waiting port') (λ later. ports.waiting port ≡ Some (taken ++ later))
  pub unsent : ports.sent port' ≡ ports.sent port
  pub failures : HaveFailed ports.counts_once missed (ports.faults port) (ports.faults port')
  pub moments : PassedBy count (clocks.moments clock) (clocks.moments clock')

-- whether a table may be turned, as a number
abbrev pub one_right : Option ℕ → ℕ
one_right turns = if is_some turns then 1 else 0

-- how many of the four tables someone may turn
abbrev pub rights : Turns → ℕ
rights turns = 0 + one_right turns.t0 + one_right turns.t1 + one_right turns.t2 + one_right turns.t3

-- of the tables below an index, how many the lane of this index turns, of so many lanes
unfoldable pub own_below : ℕ → ℕ → ℕ → ℕ
own_below lanes lane zero = 0
own_below lanes lane (suc table) = own_below lanes lane table + (if table % lanes == lane then 1 else 0)

-- of all four
abbrev pub own_tables : ℕ → ℕ → ℕ
own_tables lanes lane = own_below lanes lane 4

-- in so many rounds that lane turned its tables, each at a new moment of its clock
abbrev pub TurnedOwn : {C : Type 0} → Clocks C → ℕ → ℕ → ℕ → C → C → Type 0
TurnedOwn clocks lanes lane rounds clock clock' = PassedBy (own_tables lanes lane * rounds) (clocks.moments clock) (clocks.moments clock')
