-- Orders at a running grandmaster, and the rounds of the lane that takes Signaling, where it is served by lanes: what each took of the
-- control port, what was decided, and what was sent (the project's own choice).
use Rattle.std.specs.Prelude.{◌≡◌, ℕ, zero, suc, ◌+◌, ◌%◌, Bool, true, false, List, [], ◌∷◌, ◌++◌, flat_map, length, Option, Some, None, Result, Ok, unwrap_or}
use Rattle.ptu_units.specs.{declared.kind.Kind.{Kind}, Limits.{greatest_capacity}}
use Rattle.ptu_outside.specs.{declared.arrival.Arrival.{Arrival}, Departure.{Departure}}
use Rattle.ptu_units.specs.declared.client.Client.{Client}
use Rattle.ptu_profile.specs.declared.grandmaster.GmConfig.{GmConfig}
use Rattle.ptu_gm_messages.specs.Replies.{cancels_to}
use Rattle.ptu_config.specs.declared.settings.GmSettings.{GmSettings}
use Rattle.ptu_config.specs.Commands.{order_asked}
use Rattle.ptu_config.specs.declared.{answer.Reply.{Reply}, command.Cause.{Cause}, command.Command.{Command}}
use Rattle.ptu_config.specs.declared.command.Command.TheVariants as commands
use Rattle.ptu_lanes.specs.declared.orders.Order.{Order}
use Rattle.ptu_lanes.specs.declared.orders.Order.TheVariants as orders
use Rattle.ptu_lanes.specs.Changing.{begins_changed, later_of, new_with, peak_capacity}
use Rattle.ptu_lanes.specs.Rounds.{Exchange, replies}

-- ---- what is asked for

-- what is asked for by what was taken of a control port with this key
abbrev pub order_with : ℕ → Option Arrival → Option (Result Command Cause)
order_with key None = None
order_with key (Some arrival) = order_asked key arrival.bytes

-- in a round that took this of the control port; where there is one, the settings have its key
abbrev pub order_in : GmSettings → Option Arrival → Option (Result Command Cause)
order_in settings spoken = order_with (unwrap_or settings.control_key 0) spoken

-- what was taken of the control port
abbrev pub listed : Option Arrival → List Arrival
listed None = []
listed (Some arrival) = arrival ∷ []

-- the order that is obeyed behind a meeting: what changes nothing is none
abbrev pub left_of : Option (Result Command Cause) → Option Order
left_of (Some (Ok (commands.Class class))) = Some (orders.Class class)
left_of (Some (Ok (commands.Capacity capacity))) = Some (orders.Capacity capacity)
left_of (Some (Ok (commands.Stop cancels))) = Some (orders.Stop cancels)
left_of _ = None

-- it puts another capacity in force: that, or none
abbrev pub capacity_by : Option Order → Option ℕ
capacity_by (Some (orders.Capacity capacity)) = Some capacity
capacity_by (Some (orders.Stop true)) = Some 0
capacity_by _ = None

-- the class of the Announces behind it
abbrev pub class_by : ℕ → Option Order → ℕ
class_by class (Some (orders.Class told)) = told
class_by class _ = class

-- how many moments of clock 0 it takes
abbrev pub moments_by : Option Order → ℕ
moments_by (Some (orders.Class class)) = 1
moments_by (Some (orders.Capacity capacity)) = 1
moments_by (Some (orders.Stop true)) = 1
moments_by _ = 0

-- its round is the last one
abbrev pub stops_by : Option Order → Bool
stops_by (Some (orders.Stop cancels)) = true
stops_by _ = false

-- the greatest capacity that may come into force, where orders may come, and where none may
abbrev pub peak_ordered : Bool → GmSettings → ℕ
peak_ordered true settings = greatest_capacity
peak_ordered false settings = peak_capacity settings

-- ---- rounds, up to the one that is told to be the last

-- behind a round that is the last one there is none, and behind another one it goes on so
abbrev pub EndsOr : {A : Type 0} → Bool → List A → Type 0 → Type 0
EndsOr true later more = later ≡ []
EndsOr false later more = more

-- a round that is told to be the last one is the last, and where none is told so, so many are done
abbrev pub AreAllBy : {A : Type 0} → (A → Bool) → ℕ → List A → Type 0
AreAllBy is_last count [] = count ≡ 0
AreAllBy is_last zero (r ∷ later) = ⊥
AreAllBy is_last (suc count) (r ∷ later) = EndsOr (is_last r) later (AreAllBy is_last count later)

-- ---- a round of the lane that takes Signaling

-- how the lane stands before a round: how many rounds were done, the sequenceId of the next CANCEL, the class of the Announces, and the
-- capacity in force
pub record LaneAt : Type 0 where
  pub before : ℕ
  pub sequence : ℕ
  pub class : ℕ
  pub in_force : ℕ

-- as it is opened
abbrev pub opened_at : GmSettings → LaneAt
opened_at settings = record { before = 0; sequence = 0; class = settings.class; in_force = settings.capacity }

-- the grants that were shed by the change of the settings with which it begins, the exchanges, what was taken of the control port behind
-- them, the grants that were shed by that order, and what it was answered
pub record LaneRound : Type 0 where
  pub changed : List (Client × Kind)
  pub exchanges : List Exchange
  pub spoken : Option Arrival
  pub shed : List (Client × Kind)
  pub reply : Option Reply

-- the order that is obeyed behind it
abbrev pub ordered_by : GmSettings → LaneRound → Option Order
ordered_by settings r = left_of (order_in settings r.spoken)

-- the capacity in force in it, behind the change of the settings
abbrev pub capacity_within : GmSettings → LaneAt → ℕ
capacity_within settings at = later_of at.in_force (new_with settings at.before)

-- the sequenceId behind that many CANCELs
abbrev pub sequence_on : ℕ → List (Client × Kind) → ℕ
sequence_on sequence shed = (sequence + length shed) % 65536

-- how it stands behind a round
abbrev pub at_next : GmSettings → LaneAt → LaneRound → LaneAt
at_next settings at r = record {
  before = at.before + 1;
  sequence = sequence_on (sequence_on at.sequence r.changed) r.shed;
  class = class_by at.class (ordered_by settings r);
  in_force = later_of (capacity_within settings at) (capacity_by (ordered_by settings r));
}

-- and behind rounds
abbrev pub at_after : GmSettings → LaneAt → List LaneRound → LaneAt
at_after settings at [] = at
at_after settings at (r ∷ later) = at_after settings (at_next settings at r) later

-- each round is so, by how the lane stands before it
abbrev pub AreEach : GmSettings → (LaneAt → LaneRound → Type 0) → LaneAt → List LaneRound → Type 0
AreEach settings is at [] = Unit {0}
AreEach settings is at (r ∷ later) = is at r × AreEach settings is (at_next settings at r) later

-- the round is told to be the last one
abbrev pub ends_with : GmSettings → LaneRound → Bool
ends_with settings r = stops_by (ordered_by settings r)

-- ---- what rounds took, and what was sent

abbrev pub exchanges_in : List LaneRound → List Exchange
exchanges_in rounds = flat_map (λ (r : LaneRound). r.exchanges) rounds

abbrev pub spoken_in : List LaneRound → List Arrival
spoken_in rounds = flat_map (λ (r : LaneRound). listed r.spoken) rounds

-- in a round: the CANCELs of the change, the replies, and the CANCELs by the order, numbered on
abbrev pub round_sends : GmConfig → LaneAt → LaneRound → List Departure
round_sends config at r =
    (cancels_to config at.sequence r.changed ++ replies config r.exchanges) ++ cancels_to config (sequence_on at.sequence r.changed) r.shed

unfoldable pub lane_sends : GmSettings → GmConfig → LaneAt → List LaneRound → List Departure
lane_sends settings config at [] = []
lane_sends settings config at (r ∷ later) = round_sends config at r ++ lane_sends settings config (at_next settings at r) later

-- how many moments of clock 0 a round takes: one for the change of the settings, one for each exchange, and one for an order that
-- changes something
abbrev pub moments_if : Bool → ℕ
moments_if true = 1
moments_if false = 0

abbrev pub round_moments : GmSettings → LaneAt → LaneRound → ℕ
round_moments settings at r = moments_if (begins_changed settings at.before) + length r.exchanges + moments_by (ordered_by settings r)

unfoldable pub lane_moments : GmSettings → LaneAt → List LaneRound → ℕ
lane_moments settings at [] = 0
lane_moments settings at (r ∷ later) = round_moments settings at r + lane_moments settings (at_next settings at r) later
