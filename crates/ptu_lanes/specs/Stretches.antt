-- What lanes do, part by part, and in several rounds.
use Rattle.std.specs.Prelude.{◌≡◌, ℕ, Bool, false, ◌+◌, ◌*◌, ◌^◌, ◌-◌, ◌≤◌, min, List, [], ◌++◌, length, Option, Some, None, IfSome}
use Rattle.std.specs.List.{All}
use Rattle.ptu_units.specs.declared.{client.Client.{Client}, kind.Kind.{Kind}}
use Rattle.ptu_outside.specs.declared.{arrival.Arrival.{Arrival}, clock.Clock.{Ghosts as Clocks}, port.Port.{Ghosts as Ports}}
use Rattle.ptu_outside.specs.{Departure.{Departure}, Faults.{HasNotFallen, HasRisen}, Handed.{WasHanded}}
use Rattle.ptu_outside.specs.Rounds.{most}
use Rattle.ptu_profile.specs.declared.grandmaster.GmConfig.{GmConfig}
use Rattle.ptu_shared.specs.{Opening.{HaveFailed}, Seats.{SeatCounts}, Turning.{Turns, after_rounds}}
use Rattle.ptu_gm_messages.specs.Replies.{cancels_to}
use Rattle.ptu_config.specs.declared.{settings.GmSettings.{GmSettings}, answer.Reply.{Reply}}
use Rattle.ptu_lanes.specs.Changing.{begins_changed, later_of, new_with}
use Rattle.ptu_lanes.specs.Rounds.{Exchange, IsAnswered, asks_in, datagrams, grants_in, replies}
use Rattle.ptu_lanes.specs.Waiting.{GaveFirst, MissedFew, PassedBy, Took, rights}
use Rattle.ptu_lanes.specs.Orders.{LaneAt, LaneRound, at_next, capacity_by, class_by, ends_with, left_of, listed, moments_by, moments_if, order_in, round_moments, round_sends, sequence_on, stops_by}
use Rattle.ptu_lanes.specs.Heard.{AnswersNow, IsLaneRound, SpokenTo, reply_sent, reply_to}
use Rattle.ptu_lanes.specs.declared.orders.Order.{Order}
use Rattle.ptu_lanes.specs.declared.lanes.{ControlLane.{ControlLane}, EventLane.{EventLane}, SendingLane.{SendingLane}, SendingLanes.{SendingLanes}}

-- ---- counts

-- from a count of failed calls at a port to a later one: they are counted so from any count of faults from which those before were
abbrev pub CountsFailures : Bool → ℕ → ℕ → ℕ → ℕ → Type 0
CountsFailures once faults faults' failed failed' = (start : ℕ) → HaveFailed once failed start faults → HaveFailed once failed' start faults'

-- from a number of sends to a later one: the sends between them are counted, and a number that would be above 2^128 - 1 stands there
abbrev pub CountsSends : ℕ → ℕ → ℕ → Type 0
CountsSends sent more sent' = (start : ℕ) → sent ≡ min start (2 ^ 128 - 1) → sent' ≡ min (start + more) (2 ^ 128 - 1)

-- ---- the lanes that take Delay_Reqs, and turn tables

-- what the lane that takes Delay_Reqs did in so many rounds: its port, its clock and how many receives failed, before and after; the
-- port was sent nothing, and goes on to tell that
pub record TookDelayReqs {P C : Type 0} (ports : Ports P) (clocks : Clocks C) (rounds : ℕ) (port port' : P) (clock clock' : C) (failed failed' : ℕ) : Type 0 where
  pub gave : ¬ HasRisen (ports.faults port) (ports.faults port') → GaveFirst (most * rounds) (ports.waiting port) (ports.waiting port')
  pub took : Took ports clocks (most * rounds) 0 port port' clock clock'
  pub unsent : ports.sent port' ≡ ports.sent port
  pub missed : MissedFew ports rounds port port'
  pub failures : CountsFailures ports.counts_once (ports.faults port) (ports.faults port') failed failed'
  pub no_fall : HasNotFallen (ports.faults port) (ports.faults port')

-- the same of the lane, before and after
abbrev pub EventLaneDid : {P C : Type 0} → Ports P → Clocks C → ℕ → EventLane P C → EventLane P C → Type 0
EventLaneDid ports clocks rounds old new = TookDelayReqs ports clocks rounds old.port new.port old.clock new.clock old.failed new.failed

-- what a lane did that turns tables in so many rounds: its clock, of which it took a moment for each turn, and how often it has turned
-- each table that it may turn, before and after
pub record HasTurned {C : Type 0} (clocks : Clocks C) (rounds : ℕ) (clock clock' : C) (turns turns' : Turns) : Type 0 where
  pub moments : PassedBy (rights turns * rounds) (clocks.moments clock) (clocks.moments clock')
  pub turned : turns' ≡ after_rounds rounds turns

-- the same of the lane, before and after
abbrev pub SendingLaneDid : {C L : Type 0} → Clocks C → ℕ → SendingLane C L → SendingLane C L → Type 0
SendingLaneDid clocks rounds old new = HasTurned clocks rounds old.clock new.clock old.turner new.turner

-- the lanes that turn tables did the rounds that they say
pub record HaveTurned {C L : Type 0} (clocks : Clocks C) (old new : SendingLanes C L) : Type 0 where
  pub first : SendingLaneDid clocks new.first.done old.first new.first
  pub second : SendingLaneDid clocks new.second.done old.second new.second
  pub third : SendingLaneDid clocks new.third.done old.third new.third
  pub fourth : SendingLaneDid clocks new.fourth.done old.fourth new.fourth

-- ---- the lane that takes Signaling

-- its port, its clock, what its seat has counted, how many datagrams it has counted that were sent, and how many calls of the port that
-- failed
pub record Taking (P C : Type 0) : Type 0 where
  pub port : P
  pub clock : C
  pub seat : SeatCounts
  pub gone : ℕ
  pub failures : ℕ

abbrev pub taking_of : {P C G R : Type 0} → ControlLane P C G R → Taking P C
taking_of lane = record { port = lane.port; clock = lane.clock; seat = lane.seat; gone = lane.tally.sent; failures = lane.tally.failed }

-- From one to a later one of these, whatever became of the port's count of faults, and whether or not it tells what waits: the lane had
-- these exchanges, the datagrams of which are the first that waited where the port still tells that; its seat has counted the grants among
-- the answers, and all asks within the profile; so many moments of the clock were taken; and of these datagrams the port was sent a part,
-- in order. So many calls of the port failed: each send of another one, and so many receives.
pub record HasMoved {P C : Type 0} (ports : Ports P) (clocks : Clocks C) (config : GmConfig) (exchanges : List Exchange) (sends : List Departure) (moments missed : ℕ)
    (old new : Taking P C) : Type 0 where
  pub given : IfSome (ports.waiting new.port) (λ later. ports.waiting old.port ≡ Some (datagrams exchanges ++ later))
  pub granted : new.seat.granted ≡ old.seat.granted + grants_in exchanges
  pub counted : new.seat.granted + new.seat.refused ≡ old.seat.granted + old.seat.refused + asks_in config (datagrams exchanges)
  pub passed : PassedBy moments (clocks.moments old.clock) (clocks.moments new.clock)
  pub sent : ℕ
  pub handed : WasHanded ports old.port new.port sends sent
  pub failed : ℕ
  pub each : sent + failed ≡ length sends + missed
  pub faults : HaveFailed ports.counts_once failed (ports.faults old.port) (ports.faults new.port)
  pub counts : CountsFailures ports.counts_once (ports.faults old.port) (ports.faults new.port) old.failures new.failures
  pub sums : CountsSends old.gone sent new.gone

-- how it stands before its next round
abbrev pub lane_at : {P C G R : Type 0} → ControlLane P C G R → LaneAt
lane_at lane = record { before = lane.done; sequence = lane.sequence; class = lane.class; in_force = lane.in_force }

-- the capacity in force was changed, by which these grants were shed, and their CANCELs were handed to the port
pub record HasResized {P C : Type 0} (ports : Ports P) (clocks : Clocks C) (config : GmConfig) (moments : ℕ) (shed : List (Client × Kind)) (sequence sequence' : ℕ) (old new : Taking P C) : Type 0 where
  pub moved : HasMoved ports clocks config [] (cancels_to config sequence shed) moments 0 old new
  pub sequence_is : sequence' ≡ sequence_on sequence shed

-- a round has begun, with the change of the settings where it comes with it
pub record HasBegun {P C G R : Type 0} (ports : Ports P) (clocks : Clocks C) (settings : GmSettings) (config : GmConfig) (old new : ControlLane P C G R) : Type 0 where
  pub changed : List (Client × Kind)
  pub resized : HasResized ports clocks config (moments_if (begins_changed settings old.done)) changed old.sequence new.sequence (taking_of old) (taking_of new)
  pub unchanged : begins_changed settings old.done ≡ false → changed ≡ []
  pub seat : new.seat ≡ old.seat
  pub in_force : new.in_force ≡ later_of old.in_force (new_with settings old.done)
  pub done : new.done ≡ old.done
  pub class : new.class ≡ old.class
  pub control : new.control ≡ old.control
  pub stopped : new.stopped ≡ old.stopped

-- the rest of the lane stays, but for its control port
pub record IsBeside {P C G R : Type 0} (old new : ControlLane P C G R) : Type 0 where
  pub at : lane_at new ≡ lane_at old
  pub stopped : new.stopped ≡ old.stopped

-- what waits of Signaling in a round was taken, and answered; where the count did not rise, up to 64 datagrams or all that waited
pub record TookSignaling {P C G R : Type 0} (ports : Ports P) (clocks : Clocks C) (greatest : ℕ) (config : GmConfig) (old new : ControlLane P C G R) : Type 0 where
  pub exchanges : List Exchange
  pub few : length exchanges ≤ most
  pub answered : All (IsAnswered greatest config) exchanges
  pub missed : ℕ
  pub once : missed ≤ 1
  pub moved : HasMoved ports clocks config exchanges (replies config exchanges) (length exchanges) missed (taking_of old) (taking_of new)
  pub front : ¬ HasRisen (ports.faults old.port) (ports.faults new.port) → GaveFirst most (ports.waiting old.port) (ports.waiting new.port)
  pub most : new.seat.granted + new.seat.refused ≤ old.seat.granted + old.seat.refused + 32 * most
  pub beside : IsBeside old new

-- and behind that a datagram of the control port, where there is one; this order is left to be obeyed
pub record HasHeard {P C G R : Type 0} (ports : Ports P) (clocks : Clocks C) (greatest : ℕ) (settings : GmSettings) (config : GmConfig) (old new : ControlLane P C G R) (order : Option Order) : Type 0 where
  pub took : TookSignaling ports clocks greatest config old new
  pub spoken : Option Arrival
  pub reply : Option Reply
  pub spoke : SpokenTo ports (listed spoken) (reply_sent reply) old.control new.control
  pub left : order ≡ left_of (order_in settings spoken)
  pub now : AnswersNow (old.done + 1) old.class old.in_force (order_in settings spoken) order reply

-- an order was executed, which is to be answered so
pub record HasExecuted {P C G R : Type 0} (ports : Ports P) (clocks : Clocks C) (config : GmConfig) (order : Order) (old new : ControlLane P C G R) (reply : Reply) : Type 0 where
  pub shed : List (Client × Kind)
  pub resized : HasResized ports clocks config (moments_by (Some order)) shed old.sequence new.sequence (taking_of old) (taking_of new)
  pub kept : capacity_by (Some order) ≡ None → shed ≡ []
  pub replied : reply ≡ reply_to order shed
  pub seat : new.seat ≡ old.seat
  pub in_force : new.in_force ≡ later_of old.in_force (capacity_by (Some order))
  pub class : new.class ≡ class_by old.class (Some order)
  pub done : new.done ≡ old.done
  pub control : new.control ≡ old.control
  pub stopped : old.stopped ≡ false → new.stopped ≡ stops_by (Some order)

-- the order that came, if one did, was obeyed, and answered so
abbrev pub RepliesTo : Option Order → List (Client × Kind) → Option Reply → Type 0
RepliesTo None shed reply = reply ≡ None
RepliesTo (Some order) shed reply = reply ≡ Some (reply_to order shed)

pub record HasObeyed {P C G R : Type 0} (ports : Ports P) (clocks : Clocks C) (config : GmConfig) (order : Option Order) (old new : ControlLane P C G R) : Type 0 where
  pub shed : List (Client × Kind)
  pub resized : HasResized ports clocks config (moments_by order) shed old.sequence new.sequence (taking_of old) (taking_of new)
  pub kept : capacity_by order ≡ None → shed ≡ []
  pub reply : Option Reply
  pub replied : RepliesTo order shed reply
  pub spoke : SpokenTo ports [] (reply_sent reply) old.control new.control
  pub seat : new.seat ≡ old.seat
  pub in_force : new.in_force ≡ later_of old.in_force (capacity_by order)
  pub class : new.class ≡ class_by old.class order
  pub done : new.done ≡ old.done
  pub stopped : old.stopped ≡ false → new.stopped ≡ stops_by order

-- a whole round
pub record DidLaneRound {P C G R : Type 0} (ports : Ports P) (clocks : Clocks C) (greatest : ℕ) (settings : GmSettings) (config : GmConfig) (old new : ControlLane P C G R) : Type 0 where
  pub round : LaneRound
  pub is : IsLaneRound greatest settings config (lane_at old) round
  pub at : lane_at new ≡ at_next settings (lane_at old) round
  pub missed : ℕ
  pub once : missed ≤ 1
  pub moved : HasMoved ports clocks config round.exchanges (round_sends config (lane_at old) round) (round_moments settings (lane_at old) round) missed (taking_of old) (taking_of new)
  pub front : ¬ HasRisen (ports.faults old.port) (ports.faults new.port) → GaveFirst most (ports.waiting old.port) (ports.waiting new.port)
  pub most : new.seat.granted + new.seat.refused ≤ old.seat.granted + old.seat.refused + 32 * most
  pub spoke : SpokenTo ports (listed round.spoken) (reply_sent round.reply) old.control new.control
  pub stopped : old.stopped ≡ false → new.stopped ≡ ends_with settings round
