-- What a part of the daemon has done so far.
use Rattle.std.specs.Prelude.{◌≡◌, ◌⊎◌, ℕ, ◌+◌, ◌*◌, ◌^◌, ◌≤◌, List, [], ◌∷◌, length, map, take, true, Option, Some, None, Result, Ok, Err, IfSome, IfNone, IfOk, OnOk, OnErr}
use Rattle.ptu_outside.specs.declared.{arrival.Arrival.{Arrival}, channel.Channel.{Channel}}
use Rattle.ptu_outside.specs.declared.channel.Channel.TheVariants as channels
use Rattle.ptu_outside.specs.declared.{clock.Clock.{Ghosts as Clocks}, failed.Failed.{Failed}}
use Rattle.ptu_outside.specs.{declared.port.Port.{Ghosts as Ports}, Departure.{Departure}}
use Rattle.ptu_outside.specs.Faults.{HasNotFallen, HasRisen, HasRisenBy, HasRisenJust, one_more}
use Rattle.ptu_outside.specs.HandsOver.{SentOf}
use Rattle.ptu_outside.specs.Telling.{IfTold, IsEmptyTold, IsFirstTold, rest_told}
use Rattle.ptu_history.specs.History.{Record}
use Rattle.ptu_grandmaster.specs.{declared.driving.GmEvent.{GmEvent}, Gm.{KeptGm, StandsFor, five_ports}}
use Rattle.ptu_lanes.specs.Sending.{GoesOn, WasSent}
use Rattle.ptu_config.specs.declared.settings.GmSettings.{GmSettings}
use Rattle.ptu_outside.specs.Rounds.{most}
use Rattle.ptu_outside.specs.Taken.{Gave, HappenedAt, IsWithin, Round}
use Rattle.ptu_daemon.specs.declared.{daemon.Daemon.{Daemon}, next.Next.{Next}}
use Rattle.ptu_daemon.specs.declared.next.Next.TheVariants as nexts
use Rattle.ptu_outside.specs.declared.tally.Tally.{Tally}
use Rattle.ptu_daemon.specs.Events.{Happening, Takes, round_with, taking}
use Rattle.ptu_daemon.specs.Sends.{Standing, after_all, class_by, config_after, event_sends, sends_by, standing_after}

-- ---- one port

-- these datagrams were handed to the port, in order, and others may have been received there: so many were sent, and so many
-- sends and receives failed, of which so many are receives
pub record Handled {P : Type 0} (ports : Ports P) (sends : List Departure) (sent failed missed : ℕ) (old new : P) : Type 0 where
  pub within : missed ≤ failed
  pub each : sent + failed ≡ length sends + missed
  pub some : SentOf (ports.sent old) (ports.sent new) sends sent
  -- where the count did not rise, all were sent
  pub all : ¬ HasRisen (ports.faults old) (ports.faults new) → WasSent ports old new sends
  -- each failed send or receive is a fault, and there are no other faults
  pub risen : HasRisenBy failed (ports.faults old) (ports.faults new)
  pub just : ports.counts_once ≡ true → HasRisenJust failed (ports.faults old) (ports.faults new)
  pub quiet : failed ≡ 0 → ports.faults new ≡ ports.faults old
  pub no_fall : HasNotFallen (ports.faults old) (ports.faults new)
  -- and the port goes on to tell, unless a call failed or a datagram was such that it may cease to
  pub goes_on : failed ≡ 0 → GoesOn ports old new sends

-- likewise of each of these ports, the first of which has the index, together
abbrev pub AllHandled : {P : Type 0} → Ports P → (ℕ → List Departure) → ℕ → ℕ → ℕ → ℕ → List P → List P → Type 0
AllHandled ports sends i sent failed missed [] [] = (sent ≡ 0) × (failed ≡ 0) × (missed ≡ 0)
AllHandled ports sends i sent failed missed (old ∷ olds) (new ∷ news) =
    (s : ℕ) × (f : ℕ) × (m : ℕ) × (s' : ℕ) × (f' : ℕ) × (m' : ℕ) × (sent ≡ s + s') × (failed ≡ f + f') × (missed ≡ m + m')
    × Handled ports (sends i) s f m old new × AllHandled ports sends (i + 1) s' f' m' olds news
AllHandled ports sends i sent failed missed _ _ = ⊥

-- ---- one event

abbrev pub standing_as : {P : Type 0} → KeptGm P → ℕ → List Record → Standing
standing_as gm opening past = record { config = gm.config; opening = opening; past = past }

-- the grandmaster did the event, by which so many datagrams were sent, and so many sends failed
pub record Does {P : Type 0} (ports : Ports P) (old new : KeptGm P) (event : GmEvent) (sent failed : ℕ) : Type 0 where
  pub config : new.config ≡ record (old.config) { class = class_by old.config.class event }
  pub waiting : ports.waiting new.reply ≡ ports.waiting old.reply
  pub does : (opening : ℕ) (past : List Record) → StandsFor opening old past →
      let gm = standing_as old opening past in
      StandsFor opening new ((standing_after gm event).past)
      × AllHandled ports (λ i. event_sends gm i event) 0 sent failed 0 (five_ports old) (five_ports new)

-- ---- several events

-- this happened, these were received of the two channels, and so many datagrams were sent and so many sends and receives failed,
-- of which so many are receives
pub record Ran {P C : Type 0} (ports : Ports P) (clocks : Clocks C) (old new : Daemon P C) (happenings : List Happening) (general event : List Arrival) (sent failed missed : ℕ) : Type 0 where
  pub events : List GmEvent
  pub config : new.gm.config ≡ config_after old.gm.config events
  pub happened : HappenedAt happenings events
  pub takes : Takes (clocks.moments old.clock) (clocks.moments new.clock) happenings events
  pub general_given : Gave (ports.waiting old.gm.reply) (ports.waiting new.gm.reply) general
  pub event_given : Gave (ports.waiting old.event) (ports.waiting new.event) event
  pub event_sent : ports.sent new.event ≡ ports.sent old.event
  -- of the failures, those at the port of the event channel
  pub event_failed : ℕ
  pub event_handled : Handled ports [] 0 event_failed event_failed old.event new.event
  pub others_failed : ℕ
  pub others_missed : ℕ
  pub failures : failed ≡ others_failed + event_failed
  pub receives : missed ≡ others_missed + event_failed
  pub does : (opening : ℕ) (past : List Record) → StandsFor opening old.gm past →
      let gm = standing_as old.gm opening past in
      StandsFor opening new.gm ((after_all gm events).past)
      × AllHandled ports (λ i. sends_by gm i events) 0 sent others_failed others_missed (five_ports old.gm) (five_ports new.gm)

-- ---- parts of a round

-- so many steps of the daemon were counted
abbrev pub IsSmall : ℕ → Tally → Type 0
IsSmall steps tally = (tally.sent ≤ steps * 2 ^ 64) × (tally.failed ≤ steps * 2 ^ 64)

-- the datagram that came from the address
abbrev pub arrived : ℕ → List ℕ → Arrival
arrived from bytes = record { ip = from; bytes = bytes }

-- what one receive of a port does, with what it leaves in the room for the octets, and its result
pub record Receives {P : Type 0} (ports : Ports P) (port port' : P) (bytes : List ℕ) (result : Result (Option (ℕ × ℕ)) Failed) : Type 0 where
  pub within : IfOk result (λ got. IfSome got (λ a. a.1 ≤ 2048))
  pub first : IfOk result (λ got. IfSome got (λ a. IsFirstTold (ports.waiting port) (arrived a.0 (take a.1 bytes))))
  pub nothing : IfOk result (λ got. IfNone got (IsEmptyTold (ports.waiting port)))
  pub rest : IfOk result (λ got. IfSome got (λ a. IfTold (ports.waiting port') (rest_told (ports.waiting port))))
  pub left : IfOk result (λ got. IfNone got (IfTold (ports.waiting port') (ports.waiting port)))
  pub kept : OnErr result (IfTold (ports.waiting port') (ports.waiting port))
  pub sent : ports.sent port' ≡ ports.sent port
  pub risen : OnErr result (HasRisen (ports.faults port) (ports.faults port'))
  pub once : OnErr result (ports.counts_once ≡ true → ports.faults port' ≡ one_more (ports.faults port))
  pub quiet : OnOk result (ports.faults port' ≡ ports.faults port)
  pub no_fall : HasNotFallen (ports.faults port) (ports.faults port')

-- of what is received of one channel, that of the general, and of the event channel
abbrev pub on_general : Channel → List Arrival → List Arrival
on_general channels.General arrivals = arrivals
on_general channels.Event arrivals = []

abbrev pub on_event : Channel → List Arrival → List Arrival
on_event channels.General arrivals = []
on_event channels.Event arrivals = arrivals

-- the port that receives the channel
abbrev pub port_of : {P C : Type 0} → Channel → Daemon P C → P
port_of channels.General daemon = daemon.gm.reply
port_of channels.Event daemon = daemon.event

-- where nothing failed, all that waited were received, or as many as a round takes
abbrev pub Drains : {P : Type 0} → Ports P → ℕ → P → List Arrival → Type 0
Drains ports failed new arrivals =
    failed ≡ 0 → IfSome (ports.waiting new) (λ left. (length arrivals ≡ most) ⊎ ((length arrivals ≤ most) × (left ≡ [])))

-- what a receive of the channel, to these octets, gave
abbrev pub Received : {P C : Type 0} → Ports P → Clocks C → Channel → Daemon P C → Daemon P C → List ℕ → Result (Option (ℕ × ℕ)) Failed → Type 0
Received ports clocks channel old new bytes (Ok (Some got)) =
    (got.1 ≤ 2048)
    × Ran ports clocks old new [] (on_general channel (arrived got.0 (take got.1 bytes) ∷ [])) (on_event channel (arrived got.0 (take got.1 bytes) ∷ [])) 0 0 0
Received ports clocks channel old new bytes (Ok None) =
    Ran ports clocks old new [] [] [] 0 0 0 × IfSome (ports.waiting (port_of channel new)) (λ left. left ≡ [])
Received ports clocks channel old new bytes (Err failed) = Ran ports clocks old new [] [] [] 0 1 1

-- what came of the next datagram of a channel: it was received and taken, none waited, or the receive failed
abbrev pub CameTo : {P C : Type 0} → Ports P → Clocks C → Channel → Daemon P C → Daemon P C → Next → Type 0
CameTo ports clocks channel old new (nexts.Taken tally) =
    (arrival : Arrival) × Ran ports clocks old new (taking arrival ∷ []) (on_general channel (arrival ∷ [])) (on_event channel (arrival ∷ [])) tally.sent tally.failed 0
    × IsSmall 1 tally
CameTo ports clocks channel old new nexts.Nothing =
    Ran ports clocks old new [] [] [] 0 0 0 × IfSome (ports.waiting (port_of channel new)) (λ left. left ≡ [])
CameTo ports clocks channel old new nexts.Failed = Ran ports clocks old new [] [] [] 0 1 1

-- the daemon took what waits on one channel
pub record TookChannel {P C : Type 0} (ports : Ports P) (clocks : Clocks C) (channel : Channel) (old new : Daemon P C) (tally : Tally) : Type 0 where
  pub arrivals : List Arrival
  -- whatever failed, and whether or not the port tells
  pub few : length arrivals ≤ most
  -- a failed receive is the last
  pub missed : ℕ
  pub once : missed ≤ 1
  pub ran : Ran ports clocks old new (map taking arrivals) (on_general channel arrivals) (on_event channel arrivals) tally.sent tally.failed missed
  pub drains : Drains ports tally.failed (port_of channel new) arrivals

-- the daemon did a round, before which there were so many
pub record DidRound {P C : Type 0} (ports : Ports P) (clocks : Clocks C) (settings : GmSettings) (before : ℕ) (old new : Daemon P C) (tally : Tally) : Type 0 where
  pub round : Round
  pub within : IsWithin round
  -- one of each channel at most
  pub missed : ℕ
  pub once : missed ≤ 2
  pub ran : Ran ports clocks old new (round_with settings before round) round.general round.event tally.sent tally.failed missed
  pub general_drains : Drains ports tally.failed new.gm.reply round.general
  pub event_drains : Drains ports tally.failed new.event round.event
