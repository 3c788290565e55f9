-- What a grandmaster has done that is served by lanes (IEEE 1588-2019 clause 16.1; rounds and the change of capacity are the
-- project's own choice).
use Rattle.std.specs.{Prelude.{◌≡◌, ℕ, suc, zero, ◌+◌, ◌-◌, ◌*◌, ◌^◌, ◌≤◌, min, true, List, [], ◌++◌, Bool, length, map, take, drop, Option, Some, None, is_some, IfSome}, List.{AllByRecursion}}
use Rattle.ptu_outside.specs.declared.{arrival.Arrival.{Arrival}, clock.Clock.{Ghosts as Clocks}}
use Rattle.ptu_outside.specs.declared.{opened.Opened.{Opened}, port.Port.{Ghosts as Ports}}
use Rattle.ptu_outside.specs.{Departure.{Departure}, Faults.{HasRisen}}
use Rattle.ptu_outside.specs.Rounds.{most}
use Rattle.ptu_profile.specs.declared.grandmaster.GmConfig.{GmConfig}
use Rattle.ptu_shared.specs.{Histories.{SendsLawfully}, Opening.{HaveFailed, Seen, seen_of}, Turning.{Turns, turns_in}}
use Rattle.ptu_config.specs.{declared.settings.GmSettings.{GmSettings}, Rounds.{all_rounds}}
use Rattle.ptu_outside.specs.{Handed.{WasHanded}, Ports.{HaveRisenBy, HaveRisenJust, WereSent, ports_of, senders_of}}
use Rattle.ptu_lanes.specs.Orders.{AreAllBy, AreEach, LaneRound, at_after, ends_with, exchanges_in, lane_moments, lane_sends, opened_at, peak_ordered, spoken_in}
use Rattle.ptu_lanes.specs.Heard.{IsLaneRound, SpokenTo, answers_in}
use Rattle.ptu_lanes.specs.Rounds.{asks_in, datagrams, grants_in}
use Rattle.ptu_lanes.specs.{Sending.{GoesOn, WasSent}, Waiting.{GaveFirst, MissedFew, PassedBy, Took, TurnedOwn}}
use Rattle.ptu_lanes.specs.declared.serving.Totals.{Totals}

-- What the lane did that takes Signaling, at a port that tells what waits, in these rounds. It took the first 64 datagrams for each
-- round, or all where there are fewer. For each with an item it sent one reply, in order, with an answer for each item; around those of
-- a round it sent the CANCELs of the grants that a change of the settings or an order sheds, numbered on from 0; and nothing else. The
-- port goes on to tell, unless one of these was such that it may cease to.
pub record IsControlled {P : Type 0} (ports : Ports P) (settings : GmSettings) (config : GmConfig) (port port' : P) (left : List Arrival) (rounds : List LaneRound) : Type 0 where
  pub waited : List Arrival
  pub all : ports.waiting port ≡ Some waited
  pub all_are : datagrams (exchanges_in rounds) ≡ take (most * length rounds) waited
  pub rest : left ≡ drop (most * length rounds) waited
  pub told : WasSent ports port port' (lane_sends settings config (opened_at settings) rounds)
  pub goes_on : GoesOn ports port port' (lane_sends settings config (opened_at settings) rounds)

-- Whatever became of that port's count of faults, and whether or not it tells what waits: the lane did these rounds, which are all, or
-- less where an order was to stop; no greater capacity came into force than may, by the settings alone, or by orders where they may come.
-- It took the first datagrams that waited where the port still tells that, each at a new moment of its clock, and one moment more for
-- each change of the settings and each order that changes something. The port was sent, in order, a part of the replies and of the CANCELs;
-- all where its count did not rise. Each other one failed to be sent, and so did one receive a round at most, which ends it; each is a
-- fault, and there are no other faults. So many asks were granted, and so many within the profile did not fit.
pub record ExchangedAll {P C : Type 0} (ports : Ports P) (clocks : Clocks C) (told : Bool) (settings : GmSettings) (config : GmConfig) (port port' : P) (clock clock' : C) (granted refused : ℕ) : Type 0 where
  pub rounds : List LaneRound
  pub are : AreEach settings (IsLaneRound (peak_ordered told settings) settings config) (opened_at settings) rounds
  pub ends : AreAllBy (ends_with settings) (all_rounds settings) rounds
  pub given : IfSome (ports.waiting port') (λ later. ports.waiting port ≡ Some (datagrams (exchanges_in rounds) ++ later))
  pub granted_are : granted ≡ grants_in (exchanges_in rounds)
  pub counted : granted + refused ≡ asks_in config (datagrams (exchanges_in rounds))
  pub moments : PassedBy (lane_moments settings (opened_at settings) rounds) (clocks.moments clock) (clocks.moments clock')
  pub sent : ℕ
  pub handed : WasHanded ports port port' (lane_sends settings config (opened_at settings) rounds) sent
  pub missed : ℕ
  pub once : missed ≤ length rounds
  pub failed : ℕ
  pub each : sent + failed ≡ length (lane_sends settings config (opened_at settings) rounds) + missed
  pub failures : HaveFailed ports.counts_once failed (ports.faults port) (ports.faults port')

-- what waits at the port of the table of each index, which only sends
abbrev pub waits_of : {P C : Type 0} → Ports P → Opened P C → ℕ → Option (List Arrival)
waits_of ports opened zero = ports.waiting opened.p0
waits_of ports opened (suc zero) = ports.waiting opened.p1
waits_of ports opened (suc (suc zero)) = ports.waiting opened.p2
waits_of ports opened (suc (suc (suc n))) = ports.waiting opened.p3

-- what is seen of that port
abbrev pub seen_at : {P C : Type 0} → Ports P → Opened P C → ℕ → Seen
seen_at ports opened zero = seen_of ports opened.p0
seen_at ports opened (suc zero) = seen_of ports opened.p1
seen_at ports opened (suc (suc zero)) = seen_of ports opened.p2
seen_at ports opened (suc (suc (suc n))) = seen_of ports opened.p3

-- the counts of faults of all six ports
abbrev pub faults_of : {P C : Type 0} → Ports P → Opened P C → List ℕ
faults_of ports opened = map ports.faults (ports_of opened)

-- these ports were sent so many datagrams more together; a number that would be above 2^128 - 1 stands there
abbrev pub CountSends : ℕ → List (Option (List Departure)) → List (Option (List Departure)) → Type 0
CountSends n olds news = (all : ℕ) × (n ≡ min all (2 ^ 128 - 1)) × WereSent all olds news

-- the numbers that lanes come to: how many datagrams were sent, how many calls of ports failed, how many asks were granted, how many
-- within the profile did not fit, and how much is held at the end
pub record Numbers : Type 0 where
  pub sent : ℕ
  pub failed : ℕ
  pub granted : ℕ
  pub refused : ℕ
  pub held : ℕ

abbrev pub numbers_of : Totals → Numbers
numbers_of totals = record { sent = totals.sent; failed = totals.failed; granted = totals.granted; refused = totals.refused; held = totals.held }

-- the ports of the tables are given back, of which this was seen when they were opened: what waited still waits, and what failed is
-- what their counts rose by, with what failed at the two other ports
pub record TablesAreBack {P C : Type 0} (ports : Ports P) (seen : ℕ → Seen) (closed : Opened P C) (failed control event : ℕ) : Type 0 where
  pub waits : (ports.waiting closed.p0 ≡ (seen 0).waiting) × (ports.waiting closed.p1 ≡ (seen 1).waiting)
      × (ports.waiting closed.p2 ≡ (seen 2).waiting) × (ports.waiting closed.p3 ≡ (seen 3).waiting)
  pub of0 : ℕ
  pub of1 : ℕ
  pub of2 : ℕ
  pub of3 : ℕ
  pub all : failed ≡ of0 + (of1 + (of2 + (of3 + (control + (event + 0)))))
  pub failed0 : HaveFailed ports.counts_once of0 (seen 0).faults (ports.faults closed.p0)
  pub failed1 : HaveFailed ports.counts_once of1 (seen 1).faults (ports.faults closed.p1)
  pub failed2 : HaveFailed ports.counts_once of2 (seen 2).faults (ports.faults closed.p2)
  pub failed3 : HaveFailed ports.counts_once of3 (seen 3).faults (ports.faults closed.p3)

-- what each table's port was sent since are, in order, messages of a history of the table
pub record TablesSentLawfully {P C : Type 0} (ports : Ports P) (told : Bool) (config : GmConfig) (seen : ℕ → Seen) (closed : Opened P C) : Type 0 where
  pub p0 : SendsLawfully ports told config 0 (seen 0) (seen_of ports closed.p0)
  pub p1 : SendsLawfully ports told config 1 (seen 1) (seen_of ports closed.p1)
  pub p2 : SendsLawfully ports told config 2 (seen 2) (seen_of ports closed.p2)
  pub p3 : SendsLawfully ports told config 3 (seen 3) (seen_of ports closed.p3)

-- each table was turned so often, by its history
abbrev pub TablesTurned : {P C : Type 0} {ports : Ports P} {told : Bool} {config : GmConfig} {seen : ℕ → Seen} {closed : Opened P C} → TablesSentLawfully ports told config seen closed → ℕ → Type 0
TablesTurned lawful times =
    (turns_in lawful.p0.parts ≡ times) × (turns_in lawful.p1.parts ≡ times) × (turns_in lawful.p2.parts ≡ times) × (turns_in lawful.p3.parts ≡ times)

-- the same, and the number is how many messages of theirs were sent, with the replies that were sent by port 4; one that would be above
-- 2^128 - 1 stands there; and each table was turned so often, where that is known
abbrev pub TablesSent : {P C : Type 0} → Ports P → Bool → GmConfig → (ℕ → Seen) → Opened P C → ℕ → ℕ → Turns → Type 0
TablesSent ports told config seen closed replies sent turns =
    (lawful : TablesSentLawfully ports told config seen closed)
    × (sent ≡ min (lawful.p0.sent + (lawful.p1.sent + (lawful.p2.sent + (lawful.p3.sent + (replies + 0))))) (2 ^ 128 - 1))
    × IfSome turns.t0 (λ n. turns_in lawful.p0.parts ≡ n) × IfSome turns.t1 (λ n. turns_in lawful.p1.parts ≡ n)
    × IfSome turns.t2 (λ n. turns_in lawful.p2.parts ≡ n) × IfSome turns.t3 (λ n. turns_in lawful.p3.parts ≡ n)

-- nothing was taken of a control port in the round, and no grant was shed by an order
pub record IsUnspoken (r : LaneRound) : Type 0 where
  pub nothing : r.spoken ≡ None
  pub none_shed : r.shed ≡ []

-- between these ports and clocks as they were opened, and as they are to be given back, lanes served a grandmaster of these settings,
-- and by this control port, where there is one, in so many rounds, with these numbers at the end
pub record ServesByLanes {P C : Type 0} (ports : Ports P) (clocks : Clocks C) (settings : GmSettings) (config : GmConfig) (opened closed : Opened P C)
    (speaking speaking' : Option P) (rounds : ℕ) (numbers : Numbers) : Type 0 where
  -- whatever became of the port of the general channel: what was taken there, which was answered so, and counted, and what was sent
  pub exchanged : ExchangedAll ports clocks (is_some speaking) settings config opened.p4 closed.p4 opened.c0 closed.c0 numbers.granted numbers.refused
  pub done : rounds ≡ length exchanged.rounds
  -- where its count did not rise, and it tells what waits
  pub control : ¬ HasRisen (ports.faults opened.p4) (ports.faults closed.p4) → IfSome (ports.waiting closed.p4) (λ left.
      IsControlled ports settings config opened.p4 closed.p4 left exchanged.rounds)
  -- the control port: what was taken of it in these rounds, and of the answers it was sent a part, in order
  pub spoken : SpokenTo ports (spoken_in exchanged.rounds) (answers_in exchanged.rounds) speaking speaking'
  -- without one each round is done, and no order comes
  pub alone : speaking ≡ None → (rounds ≡ all_rounds settings) × AllByRecursion IsUnspoken exchanged.rounds
  -- no more is held at the end than is in force then
  pub within : numbers.held ≤ (at_after settings (opened_at settings) exchanged.rounds).in_force
  -- likewise the port of the event channel, which was sent nothing, and goes on to tell that
  pub event : ¬ HasRisen (ports.faults opened.p5) (ports.faults closed.p5) →
      GaveFirst (most * rounds) (ports.waiting opened.p5) (ports.waiting closed.p5)
  pub took : Took ports clocks (most * rounds) 0 opened.p5 closed.p5 opened.c1 closed.c1
  pub missed : MissedFew ports rounds opened.p5 closed.p5
  pub unsent : ports.sent closed.p5 ≡ ports.sent opened.p5
  -- each lane that turns tables took a moment of its clock for each of its tables and each round
  pub turned0 : TurnedOwn clocks settings.senders 0 rounds opened.c2 closed.c2
  pub turned1 : TurnedOwn clocks settings.senders 1 rounds opened.c3 closed.c3
  pub turned2 : TurnedOwn clocks settings.senders 2 rounds opened.c4 closed.c4
  pub turned3 : TurnedOwn clocks settings.senders 3 rounds opened.c5 closed.c5
  -- the ports of the tables are given back as those of their tables: what waits there is what did
  pub idle : (i : ℕ) → waits_of ports closed i ≡ waits_of ports opened i
  -- and what they were sent are, in order, messages of a history of the table: each to one of its clients, inside a live grant of the
  -- kind, in its own period, and with the sequenceId that is next
  pub lawful : TablesSentLawfully ports (is_some speaking) config (seen_at ports opened) closed
  -- in each round each table was turned once, which is when the message of each grant that is due goes
  pub turned : TablesTurned lawful rounds
  -- what was sent is the number of datagrams that ports 0 to 4 were sent, whatever the counts did
  pub sent : CountSends numbers.sent (map ports.sent (senders_of opened)) (map ports.sent (senders_of closed))
  -- what failed is at most what the counts of faults rose by together, and just that where each call that fails counts one fault;
  -- where nothing failed, no count rose
  pub failed : HaveRisenBy numbers.failed (faults_of ports opened) (faults_of ports closed)
  pub just : ports.counts_once ≡ true → HaveRisenJust numbers.failed (faults_of ports opened) (faults_of ports closed)
  pub quiet : numbers.failed ≡ 0 → faults_of ports closed ≡ faults_of ports opened
