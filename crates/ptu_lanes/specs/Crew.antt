-- What comes of lanes that are called in threads of their own, and of a grandmaster that is to be served by them (the project's own
-- choice).
use Rattle.std.specs.Prelude.{◌≡◌, ◌≤◌, ℕ, ◌-◌, ◌^◌, ◌⊎◌, min, false, [], length, Option, Ok, is_some, IfOk, IfSome}
use Rattle.ptu_outside.specs.declared.{clock.Clock.{Ghosts as Clocks}, opened.Opened.{Opened}, port.Port.{Ghosts as Ports}}
use Rattle.ptu_outside.specs.Faults.{HasRisen}
use Rattle.ptu_profile.specs.declared.grandmaster.GmConfig.{GmConfig}
use Rattle.ptu_shared.specs.{Opening.{HaveFailed}, Seats.{SeatCounts}, Turning.{Turns, all_turns, both_turns, no_turns, own_turns}}
use Rattle.ptu_config.specs.declared.settings.GmSettings.{GmSettings}
use Rattle.ptu_lanes.specs.Served.{ExchangedAll, IsControlled}
use Rattle.ptu_lanes.specs.Orders.{at_after, opened_at, spoken_in}
use Rattle.ptu_lanes.specs.Heard.{SpokenTo, answers_in}
use Rattle.ptu_lanes.specs.Stretches.{EventLaneDid, HasTurned, SendingLaneDid, TookDelayReqs}
use Rattle.ptu_lanes.specs.declared.lanes.{ControlLane.{ControlLane}, EventLane.{EventLane}, Lanes.{Lanes}, SendingLane.{SendingLane}, SendingLanes.{SendingLanes}}
use Rattle.ptu_lanes.specs.declared.calls.{Call.{Call}, Called.{Called}, EventWork.{EventWork}, SendingCalls.{SendingCalls}, SendingWork.{SendingWork}}
use Rattle.ptu_lanes.specs.declared.calls.Call.TheVariants as calls
use Rattle.ptu_lanes.specs.declared.calls.Called.TheVariants.{Idle, Left, Served}
use Rattle.ptu_lanes.specs.declared.crew.Done.{Done}
use Rattle.ptu_lanes.specs.declared.crew.Done.TheVariants as dones

-- ---- one lane

-- what came of the lane's call: it did this where it served, and is as it was where it left or has no work
abbrev pub CrewCameTo : {T : Type 0} → (T → Type 0) → T → Called T → Type 0
CrewCameTo did lane (Served result) = IfOk result did
CrewCameTo did lane (Left back) = back ≡ lane
CrewCameTo did lane (Idle back) = did back × (back ≡ lane)

-- the call comes to this, where its thread keeps its promise
abbrev pub Ends : {T Q : Type 0} → (Q → T → Type 0) → Call T Q → T → Type 0
Ends kept (calls.Thread handle) called = kept handle.promise called
Ends kept (calls.Here made) called = called ≡ made

-- whatever the lane's call comes to, it did this, or is as it was
abbrev pub IsAtWork : {T Q : Type 0} → (T → Type 0) → T → (Q → Called T → Type 0) → Call (Called T) Q → Type 0
IsAtWork did lane kept call = (called : Called _) → Ends kept call called → CrewCameTo did lane called

-- the lane that served
abbrev pub IsServed : {T : Type 0} → T → Called T → Type 0
IsServed lane (Served result) = result ≡ Ok lane
IsServed lane (Left back) = ⊥
IsServed lane (Idle back) = lane ≡ back

-- the lane that left
abbrev pub HasLeft : {T : Type 0} → T → Called T → Type 0
HasLeft lane (Served result) = ⊥
HasLeft lane (Left back) = lane ≡ back
HasLeft lane (Idle back) = lane ≡ back

-- what a thread promises of the lane that takes Delay_Reqs, and of one that turns tables
abbrev pub EventKept : {P C : Type 0} → Ports P → Clocks C → EventWork P C → Called (EventLane P C) → Type 0
EventKept ports clocks work called = CrewCameTo (λ (new : EventLane _ _). EventLaneDid ports clocks new.done work.lane.value new) work.lane.value called

abbrev pub SendingKept : {C L : Type 0} → Clocks C → SendingWork C L → Called (SendingLane C L) → Type 0
SendingKept clocks work called = CrewCameTo (λ (new : SendingLane _ _). SendingLaneDid clocks new.done work.lane.value new) work.lane.value called

-- ---- all lanes

-- the lane that turns tables is at work so
abbrev pub IsTurning : {C L : Type 0} → Clocks C → SendingLane C L → Call (Called (SendingLane C L)) (SendingWork C L) → Type 0
IsTurning clocks old call = IsAtWork (λ (new : SendingLane _ _). SendingLaneDid clocks new.done old new) old (SendingKept clocks) call

pub record AreTurning {C L : Type 0} (clocks : Clocks C) (old : SendingLanes C L) (calls : SendingCalls C L) : Type 0 where
  pub first : IsTurning clocks old.first calls.first
  pub second : IsTurning clocks old.second calls.second
  pub third : IsTurning clocks old.third calls.third
  pub fourth : IsTurning clocks old.fourth calls.fourth

-- what the lane did that takes Signaling in all rounds, with the changes of capacity and the orders: its port, its clock and its control
-- port, before and after, what its seat has counted, how many datagrams it has counted that were sent, how many calls of the port failed,
-- how many rounds it did, and the capacity that it put in force last
pub record ServedSignaling {P C : Type 0} (ports : Ports P) (clocks : Clocks C) (settings : GmSettings) (config : GmConfig) (port port' : P) (clock clock' : C)
    (speaking speaking' : Option P) (counted : SeatCounts) (gone failures done in_force : ℕ) : Type 0 where
  pub exchanged : ExchangedAll ports clocks (is_some speaking) settings config port port' clock clock' counted.granted counted.refused
  pub all_done : done ≡ length exchanged.rounds
  pub control : ¬ HasRisen (ports.faults port) (ports.faults port') → IfSome (ports.waiting port') (λ left.
      IsControlled ports settings config port port' left exchanged.rounds)
  pub spoken : SpokenTo ports (spoken_in exchanged.rounds) (answers_in exchanged.rounds) speaking speaking'
  pub in_force_is : in_force ≡ (at_after settings (opened_at settings) exchanged.rounds).in_force
  pub sends : gone ≡ min exchanged.sent (2 ^ 128 - 1)
  pub failed : HaveFailed ports.counts_once failures (ports.faults port) (ports.faults port')

-- how often the lanes have turned each table
abbrev pub turns_by : {C L : Type 0} → SendingLanes C L → Turns
turns_by lanes = both_turns lanes.first.turner (both_turns lanes.second.turner (both_turns lanes.third.turner lanes.fourth.turner))

-- the lane did so many rounds, if it turns tables
abbrev pub IsWith : {C L : Type 0} → ℕ → SendingLane C L → Type 0
IsWith rounds lane = (lane.turner ≡ no_turns) ⊎ (lane.done ≡ rounds)

-- all lanes did as many rounds as the one that takes Signaling
pub record AreTogether {P C L G R : Type 0} (lanes : Lanes P C L G R) : Type 0 where
  pub event : lanes.event.done ≡ lanes.control.done
  pub first : IsWith lanes.control.done lanes.sending.first
  pub second : IsWith lanes.control.done lanes.sending.second
  pub third : IsWith lanes.control.done lanes.sending.third
  pub fourth : IsWith lanes.control.done lanes.sending.fourth

-- a lane that has done nothing yet
pub record IsFresh {P C G R : Type 0} (settings : GmSettings) (lane : ControlLane P C G R) : Type 0 where
  pub done : lane.done ≡ 0
  pub class : lane.class ≡ settings.class
  pub in_force : lane.in_force ≡ settings.capacity
  pub sequence : lane.sequence ≡ 0
  pub stopped : lane.stopped ≡ false

-- the lane, before and after
abbrev pub ServedAs : {P C G R : Type 0} → Ports P → Clocks C → GmSettings → GmConfig → ControlLane P C G R → ControlLane P C G R → Type 0
ServedAs ports clocks settings config old new =
    ServedSignaling ports clocks settings config old.port new.port old.clock new.clock old.control new.control
    new.seat new.tally.sent new.tally.failed new.done new.in_force

-- all lanes did the rounds that they say, between these ports and clocks as they were opened, and as the lanes have them
pub record LanesServed {P C L G R : Type 0} (ports : Ports P) (clocks : Clocks C) (settings : GmSettings) (config : GmConfig) (opened : Opened P C) (speaking : Option P) (lanes : Lanes P C L G R) : Type 0 where
  pub lanes_are : (1 ≤ settings.senders) × (settings.senders ≤ 4)
  pub control : ServedSignaling ports clocks settings config opened.p4 lanes.control.port opened.c0 lanes.control.clock
      speaking lanes.control.control lanes.control.seat lanes.control.tally.sent lanes.control.tally.failed lanes.control.done lanes.control.in_force
  pub event : TookDelayReqs ports clocks lanes.event.done opened.p5 lanes.event.port opened.c1 lanes.event.clock 0 lanes.event.failed
  pub first : HasTurned clocks lanes.sending.first.done opened.c2 lanes.sending.first.clock (own_turns settings.senders 0 all_turns) lanes.sending.first.turner
  pub second : HasTurned clocks lanes.sending.second.done opened.c3 lanes.sending.second.clock (own_turns settings.senders 1 all_turns) lanes.sending.second.turner
  pub third : HasTurned clocks lanes.sending.third.done opened.c4 lanes.sending.third.clock (own_turns settings.senders 2 all_turns) lanes.sending.third.turner
  pub fourth : HasTurned clocks lanes.sending.fourth.done opened.c5 lanes.sending.fourth.clock (own_turns settings.senders 3 all_turns) lanes.sending.fourth.turner

-- the lanes did all rounds, and no seat is left; or a lane was refused its thread, and all is as it was opened
abbrev pub HasDone : {P C L G R : Type 0} → Ports P → Clocks C → GmSettings → GmConfig → Opened P C → Option P → Done P C L G R → Type 0
HasDone ports clocks settings config opened control (dones.Served lanes seats) =
    LanesServed ports clocks settings config opened control lanes × (seats.items ≡ [])
HasDone ports clocks settings config opened control (dones.Refused back control') = (back ≡ opened) × (control' ≡ control)
