-- What a slave's daemon did so far, whatever its ports tell.
use Rattle.std.specs.Prelude.{◌≡◌, ◌⊎◌, ℕ, ◌+◌, ◌*◌, ◌<◌, ◌≤◌, ◌^◌, Bool, true, false, cond, List, [], ◌∷◌, ◌++◌, length, map, Option, Some, IsSome, IfSome}
use Rattle.std.specs.List.{AllByRecursion}
use Rattle.ptu_outside.specs.{declared.arrival.Arrival.{Arrival}, Departure.{Departure}}
use Rattle.ptu_outside.specs.declared.{clock.Clock.{Ghosts as Clocks}, port.Port.{Ghosts as Ports}}
use Rattle.ptu_outside.specs.{Faults.{HasNotFallen, HasRisen, HasRisenBy, HasRisenJust}, Telling.{IsEmptyTold}}
use Rattle.ptu_record.specs.Record.{Record}
use Rattle.ptu_judges.specs.Held.{Held}
use Rattle.ptu_slave_messages.specs.Node.{Node}
use Rattle.ptu_slave.specs.{Kept.{Kept}, Seen.{Seen}, Standing.{StandsFor}}
use Rattle.ptu_outside.specs.{Handed.{SentPart}, Rounds.{in_rounds, left_after, moments_after, most, timed}}
use Rattle.ptu_outside.specs.Taken.{Gave, HappenedAt, HaveTaken, Round, event_of, general_of}
use Rattle.ptu_slave_daemon.specs.declared.line.SlaveLine.{SlaveLine}
use Rattle.ptu_outside.specs.declared.tally.Tally.{Tally}
use Rattle.ptu_slave_daemon.specs.Happenings.{SlaveHappening, Stops, happenings_of_rounds, arrive, Selection, happenings, record_by_happenings, slave_round_of, selections_in, sent_by_happenings}
use Rattle.ptu_slave_daemon.specs.Lines.{output_from}

-- ---- counts

-- so many more can be counted
abbrev pub IsFew : ℕ → Tally → Type 0
IsFew n counts = (counts.sent + n < 2 ^ 128) × (counts.failed + n < 2 ^ 128)

-- at most so many were counted
abbrev pub CountsGrow : ℕ → Tally → Tally → Type 0
CountsGrow n old new = (new.sent ≤ old.sent + n) × (new.failed ≤ old.failed + n)

-- so many were counted
abbrev pub Counted : (sent failed : ℕ) → Tally → Tally → Type 0
Counted sent failed old new = (new.sent ≡ old.sent + sent) × (new.failed ≡ old.failed + failed)

-- ---- ports

-- of a port with these counts of faults so many sends and receives failed; each counts one fault where `once`
pub record HasFailed (once : Bool) (old new failed : ℕ) : Type 0 where
  pub risen : HasRisenBy failed old new
  pub just : once ≡ true → HasRisenJust failed old new
  pub quiet : failed ≡ 0 → new ≡ old
  pub no_fall : HasNotFallen old new

-- a port with these counts of faults was handed the datagrams, of which so many were sent; so many sends and receives failed, and
-- of these so many receives
pub record PortDid (once : Bool) (before after : Option (List Departure)) (old new : ℕ) (datagrams : List Departure)
    (sent failed missed : ℕ) : Type 0 where
  pub within : missed ≤ failed
  pub each : sent + failed ≡ length datagrams + missed
  pub part : SentPart before after old new datagrams sent
  pub fails : HasFailed once old new failed

-- what a round takes of a port with these counts of faults: 64 datagrams, or all that waited where no
-- receive failed; so many failed
pub record RoundTook (before after : Option (List Arrival)) (old new : ℕ) (arrivals : List Arrival)
    (missed : ℕ) : Type 0 where
  pub came : Gave before after arrivals
  pub few : length arrivals ≤ most
  pub whole : ¬ HasRisen old new → (length arrivals ≡ most) ⊎ IsEmptyTold after
  -- a failed receive is the last
  pub once : missed ≤ 1

-- ---- moments

-- these happened each at a new moment of a clock that told these moments before, and tells these after
abbrev pub AreTimed : Option (List ℕ) → Option (List ℕ) → List (ℕ → SlaveHappening) → List SlaveHappening → Type 0
AreTimed before after acts hs =
    IfSome after (λ later. (times : List ℕ) × (before ≡ Some times) × (hs ≡ timed times acts)
    × (later ≡ moments_after (length acts) times))

-- ---- the slave

-- a slave, of which this is kept and whose judges hold this, stands for the node with this record
pub record IsAt (node : Node) (kept : Kept) (judges : List Held) (L : Record) : Type 0 where
  pub config : kept.config ≡ node.config
  pub masters : kept.masters ≡ node.masters
  pub stands : StandsFor node.openings kept judges L
  pub ruled : AllByRecursion (λ held. IsSome held.rule) judges

-- a slave with its port and the clock, as they are seen: what is kept and held, what the port was sent, its faults, and the
-- moments to come
pub record View : Type 0 where
  pub kept : Kept
  pub judges : List Held
  pub sent : Option (List Departure)
  pub faults : ℕ
  pub times : Option (List ℕ)

-- from the record L on these happened to the slave: it stands for the record after them, its port was handed what is sent
-- then, and it selected this
pub record SlaveRan (once : Bool) (node : Node) (L : Record) (old new : View) (acts : List (ℕ → SlaveHappening)) (hs : List SlaveHappening)
    (selections : List Selection) (sent failed missed : ℕ) : Type 0 where
  pub happened : HappenedAt acts hs
  pub timed : AreTimed old.times new.times acts hs
  pub stands : IsAt node new.kept new.judges (record_by_happenings node L hs)
  pub port : PortDid once old.sent new.sent old.faults new.faults (sent_by_happenings node L hs) sent failed missed
  pub selects : selections_in node L hs ≡ selections

-- these arrivals were taken, of which no selection came
abbrev pub SlaveTook : Bool → Node → Record → View → View → List Arrival → (sent failed missed : ℕ) → Type 0
SlaveTook once node L old new arrivals sent failed missed =
    (hs : List SlaveHappening) × SlaveRan once node L old new (map arrive arrivals) hs [] sent failed missed

-- ---- rounds

-- after so many rounds, where no port has failed and all is still told, what happened is what the rounds say of all that
-- waited, and what waits is the rest
abbrev pub AreSlaveRounds : ℕ → (general general' event event' : Option (List Arrival))
    → (faults faults' event_faults event_faults' : ℕ) → List (ℕ → SlaveHappening) → Type 0
AreSlaveRounds rounds general general' event event' faults faults' event_faults event_faults' acts =
    ¬ HasRisen faults faults' → ¬ HasRisen event_faults event_faults'
    → (left : List Arrival) (event_left : List Arrival)
    → general' ≡ Some left → event' ≡ Some event_left
    → (all : List Arrival) × (event_all : List Arrival) × (general ≡ Some all) × (event ≡ Some event_all)
    × (acts ≡ in_rounds (slave_round_of all event_all) rounds)
    × (left ≡ left_after rounds all) × (event_left ≡ left_after rounds event_all)

-- ---- as the code sees it

-- the view of a slave that keeps and holds this, with its port and the clock
abbrev pub view_of : {P C : Type 0} → Ports P → Clocks C → Kept → List Held → P → C → View
view_of ports clocks kept judges port clock = record {
  kept = kept;
  judges = judges;
  sent = ports.sent port;
  faults = ports.faults port;
  times = clocks.moments clock;
}

-- the same of what is seen of a slave
abbrev pub sees : {P B C : Type 0} → Ports P → Clocks C → Seen P B → C → View
sees ports clocks slave clock = view_of ports clocks slave.kept slave.judges slave.port clock

-- what is seen of a slave stands for the node with this record
abbrev pub Stands : {P B : Type 0} → Node → Seen P B → Record → Type 0
Stands node slave L = IsAt node slave.kept slave.judges L

-- one datagram was taken of a port, or none, and then none waited or a receive failed
pub record TookOne (more : Bool) (before after : Option (List Arrival)) (old new : ℕ) (arrivals : List Arrival) (missed : ℕ) : Type 0 where
  pub came : Gave before after arrivals
  pub many : length arrivals ≡ cond more 1 0
  pub none : more ≡ false → ¬ HasRisen old new → IsEmptyTold after
  pub once : missed ≤ cond more 0 1

-- what is said of a node's record, of its slave as it was and is seen, of what waited and waits on the general channel and on
-- the event channel, and of the faults of the latter's port
abbrev pub SlaveCourse : Type 1
SlaveCourse = Node → Record → (old new : View) → (general general' event event' : Option (List Arrival))
    → (event_faults event_faults' : ℕ) → Type 0

-- so many rounds were gone through, which began at the record L, and after which this was selected; what happened is what
-- happened in them, with its end
pub record WentThrough (once : Bool) (ended : List (ℕ → SlaveHappening) → List (ℕ → SlaveHappening)) (rounds : ℕ) (selections : List Selection)
    (sent failures : ℕ) (node : Node) (L : Record) (old new : View)
    (general general' event event' : Option (List Arrival)) (event_faults event_faults' : ℕ) : Type 0 where
  -- what each round took, whatever failed and whether or not the ports tell
  pub took : List Round
  pub taken : HaveTaken took rounds
  pub general_gave : Gave general general' (general_of took)
  pub event_gave : Gave event event' (event_of took)
  pub hs : List SlaveHappening
  pub failed : ℕ
  pub event_failed : ℕ
  pub failures_are : failures ≡ failed + event_failed
  -- of the general channel so many receives failed; with those of the event channel at most one of each channel and round
  pub missed : ℕ
  pub few : missed + event_failed ≤ 2 * rounds
  pub ran : SlaveRan once node L old new (ended (happenings_of_rounds took)) hs selections sent failed missed
  pub event_fails : HasFailed once event_faults event_faults' event_failed
  pub as_said : AreSlaveRounds rounds general general' event event' old.faults new.faults event_faults event_faults' (happenings_of_rounds took)

-- the rounds alone
abbrev pub RoundsDone : Bool → ℕ → List Selection → (sent failures : ℕ) → SlaveCourse
RoundsDone once = WentThrough once (λ acts. acts)

-- and the slave has stopped
abbrev pub RunDone : Bool → ℕ → List Selection → (sent failures : ℕ) → SlaveCourse
RunDone once = WentThrough once (λ acts. acts ++ Stops ∷ [])

-- ---- fronts of the output

-- where no port has failed and all is still told, these lines are a front of the whole output of so many rounds
abbrev pub IsFront : ℕ → List SlaveLine → SlaveCourse
IsFront rounds lines node L old new general general' event event' event_faults event_faults' =
    (all : List Arrival) (event_all : List Arrival) (times : List ℕ)
    → general ≡ Some all → event ≡ Some event_all → old.times ≡ Some times
    → IsSome general' → IsSome event' → IsSome new.times
    → ¬ HasRisen old.faults new.faults → ¬ HasRisen event_faults event_faults'
    → (rest : List SlaveLine) × (output_from rounds node L (happenings rounds all event_all times) ≡ lines ++ rest)

-- ---- over the ports

module _ {P B C : Type 0} (ports : Ports P) (clocks : Clocks C) (old new : Seen P B) (clock clock' : C) where
  -- it is so of the slave, of its port, of the port of the event channel and of the clock, whatever node and record it stood for
  abbrev pub Went : (event event' : P) → SlaveCourse → Type 0
  Went event event' course = (node : Node) (L : Record) → Stands node old L
      → course node L (sees ports clocks old clock) (sees ports clocks new clock')
      (ports.waiting old.port) (ports.waiting new.port) (ports.waiting event) (ports.waiting event') (ports.faults event) (ports.faults event')

  -- arrivals were taken of the slave's own port, in this way
  abbrev pub TookGeneral : (Option (List Arrival) → Option (List Arrival) → ℕ → ℕ → List Arrival → ℕ → Type 0) → Tally → Tally → Type 0
  TookGeneral Way counts counts' = (node : Node) (L : Record) → Stands node old L
      → (arrivals : List Arrival) × (ok : ℕ) × (failed : ℕ) × (missed : ℕ) × Counted ok failed counts counts'
      × Way (ports.waiting old.port) (ports.waiting new.port) (ports.faults old.port) (ports.faults new.port) arrivals missed
      × SlaveTook ports.counts_once node L (sees ports clocks old clock) (sees ports clocks new clock') arrivals ok failed missed

  -- of the event channel's port
  abbrev pub TookEvent : (event event' : P) → (Option (List Arrival) → Option (List Arrival) → ℕ → ℕ → List Arrival → ℕ → Type 0) → Tally → Tally → Type 0
  TookEvent event event' Way counts counts' = (node : Node) (L : Record) → Stands node old L
      → (arrivals : List Arrival) × (ok : ℕ) × (failed : ℕ) × (event_failed : ℕ) × Counted ok (failed + event_failed) counts counts'
      × HasFailed ports.counts_once (ports.faults event) (ports.faults event') event_failed
      × Way (ports.waiting event) (ports.waiting event') (ports.faults event) (ports.faults event') arrivals event_failed
      × SlaveTook ports.counts_once node L (sees ports clocks old clock) (sees ports clocks new clock') arrivals ok failed 0
