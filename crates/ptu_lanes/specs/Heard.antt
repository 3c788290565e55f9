-- What is taken of a control port, and what is answered there (the project's own choice).
use Rattle.std.specs.Prelude.{◌≡◌, ◌≤◌, ℕ, ◌+◌, false, List, [], ◌∷◌, flat_map, length, Option, Some, None, Result, Ok, Err, IfNone, IfSome}
use Rattle.std.specs.List.{All}
use Rattle.ptu_units.specs.declared.{client.Client.{Client}, kind.Kind.{Kind}}
use Rattle.ptu_outside.specs.{declared.arrival.Arrival.{Arrival}, declared.port.Port.{Ghosts as Ports}, Departure.{Departure}}
use Rattle.ptu_outside.specs.declared.channel.Channel.TheVariants as channels
use Rattle.ptu_outside.specs.{Faults.{HasNotFallen, HasRisen}, Handed.{WasHanded}, HandsOver.{HandsOver}, Taken.{Gave}}
use Rattle.ptu_outside.specs.Rounds.{most}
use Rattle.ptu_profile.specs.declared.grandmaster.GmConfig.{GmConfig}
use Rattle.ptu_shared.specs.Opening.{HaveFailed}
use Rattle.ptu_config.specs.{declared.settings.GmSettings.{GmSettings}, Answers.{reply_text}}
use Rattle.ptu_config.specs.declared.{answer.Reply.{Reply}, answer.Status.{Status}, command.Cause.{Cause}, command.Command.{Command}}
use Rattle.ptu_config.specs.declared.answer.Reply.TheVariants.{Done as IsDone, Shed, Stands, Bad}
use Rattle.ptu_config.specs.declared.command.Command.TheVariants as commands
use Rattle.ptu_lanes.specs.declared.orders.Order.{Order}
use Rattle.ptu_lanes.specs.declared.orders.Order.TheVariants as orders
use Rattle.ptu_lanes.specs.Changing.{begins_changed}
use Rattle.ptu_lanes.specs.Orders.{LaneAt, LaneRound, capacity_by, capacity_within, left_of, listed, order_in, order_with, ordered_by}
use Rattle.ptu_lanes.specs.Rounds.{IsAnswered}

-- ---- one port

-- an answer goes to this machine itself, as a general message
abbrev pub answer_sent : Reply → Departure
answer_sent reply = record { ip = 0x7F000001; channel = channels.General; bytes = reply_text reply }

-- this was taken of the port: the first that waited, or nothing where none did or the receive failed; nothing was sent
pub record TookSpoken {P : Type 0} (ports : Ports P) (old new : P) (spoken : Option Arrival) : Type 0 where
  pub given : Gave (ports.waiting old) (ports.waiting new) (listed spoken)
  pub drained : ¬ HasRisen (ports.faults old) (ports.faults new) → IfNone spoken (IfSome (ports.waiting new) (λ left. left ≡ []))
  pub unsent : ports.sent new ≡ ports.sent old
  pub failed : ℕ
  pub failures : HaveFailed ports.counts_once failed (ports.faults old) (ports.faults new)

-- this order was taken of it, where the key is this
pub record TookOrder {P : Type 0} (ports : Ports P) (key : ℕ) (old new : P) (order : Option (Result Command Cause)) : Type 0 where
  pub spoken : Option Arrival
  pub took : TookSpoken ports old new spoken
  pub is : order ≡ order_with key spoken

-- the answer was handed to it
pub record WasAnswered {P : Type 0} (ports : Ports P) (old new : P) (reply : Reply) : Type 0 where
  pub sent : ℕ
  pub failed : ℕ
  pub hands : HandsOver ports old new (answer_sent reply ∷ []) sent failed

-- ---- a port that may not be there

-- these were taken of it, the first that waited, and it was handed these, in order, of which it was sent a part
pub record Spoke {P : Type 0} (ports : Ports P) (spoken : List Arrival) (answers : List Departure) (old new : P) : Type 0 where
  pub given : Gave (ports.waiting old) (ports.waiting new) spoken
  pub sent : ℕ
  pub handed : WasHanded ports old new answers sent
  pub no_fall : HasNotFallen (ports.faults old) (ports.faults new)

-- where there is none, nothing was taken
abbrev pub SpokenTo : {P : Type 0} → Ports P → List Arrival → List Departure → Option P → Option P → Type 0
SpokenTo ports spoken answers None None = spoken ≡ []
SpokenTo ports spoken answers (Some old) (Some new) = Spoke ports spoken answers old new
SpokenTo ports spoken answers _ _ = ⊥

-- this was taken of it, and asks for that
abbrev pub Hears : {P : Type 0} → Ports P → GmSettings → Option P → Option P → Option (Result Command Cause) → Type 0
Hears ports settings control control' asked =
    (spoken : Option Arrival) × (asked ≡ order_in settings spoken) × SpokenTo ports (listed spoken) [] control control'

-- ---- what is answered

-- what was answered was handed to the port
abbrev pub reply_sent : Option Reply → List Departure
reply_sent None = []
reply_sent (Some reply) = answer_sent reply ∷ []

-- a status in the round of this number, where this class and this capacity are in force; all else stands behind locks
pub record MayStand (round class in_force : ℕ) (status : Status) : Type 0 where
  pub round_is : status.round ≡ round
  pub class_is : status.class ≡ class
  pub capacity_is : status.capacity ≡ in_force

-- to what is asked for in that round, by which these grants were shed, this is answered
abbrev pub IsReply : ℕ → ℕ → ℕ → List (Client × Kind) → Option (Result Command Cause) → Option Reply → Type 0
IsReply round class in_force shed None reply = reply ≡ None
IsReply round class in_force shed (Some (Err cause)) reply = reply ≡ Some (Bad cause)
IsReply round class in_force shed (Some (Ok (commands.Class told))) reply = reply ≡ Some IsDone
IsReply round class in_force shed (Some (Ok (commands.Capacity told))) reply = reply ≡ Some (Shed (length shed))
IsReply round class in_force shed (Some (Ok commands.Status)) reply = (status : Status) × (reply ≡ Some (Stands status)) × MayStand round class in_force status
IsReply round class in_force shed (Some (Ok (commands.Stop cancels))) reply = reply ≡ Some IsDone

-- what an order is answered behind the meeting
abbrev pub reply_to : Order → List (Client × Kind) → Reply
reply_to (orders.Class class) shed = IsDone
reply_to (orders.Capacity capacity) shed = Shed (length shed)
reply_to (orders.Stop cancels) shed = IsDone

-- what is asked for was left to be obeyed behind the meeting, and not answered yet, or answered at once
abbrev pub AnswersNow : ℕ → ℕ → ℕ → Option (Result Command Cause) → Option Order → Option Reply → Type 0
AnswersNow round class in_force asked None reply = IsReply round class in_force [] asked reply
AnswersNow round class in_force asked (Some order) reply = reply ≡ None

abbrev pub Leaves : {P : Type 0} → Ports P → Option (Result Command Cause) → ℕ → ℕ → ℕ → Option P → Option P → Option Order → Type 0
Leaves ports asked done class in_force control control' order =
    (reply : Option Reply) × (order ≡ left_of asked) × AnswersNow (done + 1) class in_force asked order reply
    × SpokenTo ports [] (reply_sent reply) control control'

-- ---- rounds

-- what was answered in rounds
abbrev pub answers_in : List LaneRound → List Departure
answers_in rounds = flat_map (λ (r : LaneRound). reply_sent r.reply) rounds

-- a round in which no greater capacity than this comes into force, and before which the lane stands so: it took 64 datagrams at most, each
-- item was decided and answered, grants are shed only by a change or an order for which they may be, and what was asked for was answered
pub record IsLaneRound (greatest : ℕ) (settings : GmSettings) (config : GmConfig) (at : LaneAt) (r : LaneRound) : Type 0 where
  pub few : length r.exchanges ≤ most
  pub answered : All (IsAnswered greatest config) r.exchanges
  pub unchanged : begins_changed settings at.before ≡ false → r.changed ≡ []
  pub kept : capacity_by (ordered_by settings r) ≡ None → r.shed ≡ []
  pub replied : IsReply (at.before + 1) at.class (capacity_within settings at) r.shed (order_in settings r.spoken) r.reply
