-- The datagrams that events make a grandmaster send, by port: ports 0 to 3 are those of its tables, and port 4 is that of its
-- Signaling messages.
use Rattle.std.specs.Prelude.{ℕ, ◌==◌, if◌then◌else◌, List, [], ◌∷◌, ◌++◌, map, Result, Ok, Err}
use Rattle.ptu_outside.specs.Departure.{Departure}
use Rattle.ptu_units.specs.Client.{table_of}
use Rattle.ptu_history.specs.{Core.{core_moment, history_after}, Counts.{counts}}
use Rattle.ptu_history.specs.Events as events
use Rattle.ptu_history.specs.{History.{Record}, Shedding.{shed_grants}, Step.{delay_answer}}
use Rattle.ptu_history.specs.Turns.{due_grants, message_of}
use Rattle.ptu_profile.specs.declared.grandmaster.GmConfig.{GmConfig}
use Rattle.ptu_shard.specs.{Answered.{responses}, Messages.{departure_of, response_of}}
use Rattle.ptu_gm_messages.specs.declared.heard.Heard.{Heard}
use Rattle.ptu_gm_messages.specs.declared.heard.Heard.TheVariants as heard
use Rattle.ptu_gm_messages.specs.{declared.reason.GmReason.{GmReason}, Items.{heard_in}}
use Rattle.ptu_gm_messages.specs.Deciding.{client_of, opened_with, reply_after}
use Rattle.ptu_gm_messages.specs.Replies.{cancels_to, lease_of}
use Rattle.ptu_grandmaster.specs.declared.driving.GmEvent.{GmEvent}
use Rattle.ptu_grandmaster.specs.declared.driving.GmEvent.TheVariants.{Take, Turn, Class, Capacity}
use Rattle.ptu_grandmaster.specs.Driven.{events_of}

-- the grandmaster's configuration, the capacity that it was opened with, and its history
pub record Standing : Type 0 where
  pub config : GmConfig
  pub opening : ℕ
  pub past : List Record

-- of datagrams that go by one port, those that go by the port of this index
abbrev pub by : ℕ → ℕ → List Departure → List Departure
by i port datagrams = if i == port then datagrams else []

-- what it heard from the address at the moment makes it send by the port of this index: a Delay_Resp where one is lawful, or
-- one reply to items
abbrev pub heard_sends : Standing → ℕ → ℕ → ℕ → Result Heard GmReason → List Departure
heard_sends gm i t from (Err reason) = []
heard_sends gm i t from (Ok (heard.DelayReq header)) =
    let c = client_of from header in
    let x = core_moment gm.past t (events.DelayReq c) in
    by i (table_of c) (responses (delay_answer gm.past x c) (response_of gm.config x c header))
heard_sends gm i t from (Ok (heard.Asks header [])) = []
heard_sends gm i t from (Ok (heard.Asks header items)) =
    by i 4 (reply_after gm.config (opened_with gm.opening gm.config) gm.past t from header items ∷ [])

-- the event makes it send by the port of this index
abbrev pub event_sends : Standing → ℕ → GmEvent → List Departure
event_sends gm i (Take t from octets) = heard_sends gm i t from (heard_in gm.config octets)
event_sends gm i (Turn t j) =
    let x = core_moment gm.past t (events.Turn j) in
    by i j (map (λ g. departure_of gm.config x (message_of gm.past g)) (due_grants gm.past x j))
event_sends gm i (Class class) = []
event_sends gm i (Capacity t capacity) =
    let x = core_moment gm.past t (events.Resize capacity) in
    by i 4 (cancels_to gm.config (counts gm.past).shed (map lease_of (shed_grants gm.past x capacity)))

-- the class of its Announces after the event, which was this
abbrev pub class_by : ℕ → GmEvent → ℕ
class_by class (Class new) = new
class_by class _ = class

-- it after the event
abbrev pub standing_after : Standing → GmEvent → Standing
standing_after gm event =
    record {
      config = record gm.config { class = class_by gm.config.class event };
      opening = gm.opening;
      past = history_after (opened_with gm.opening gm.config) gm.past (events_of gm.config event);
    }

-- the class after these events
abbrev pub class_after : ℕ → List GmEvent → ℕ
class_after class [] = class
class_after class (event ∷ later) = class_after (class_by class event) later

-- its configuration after these events
abbrev pub config_after : GmConfig → List GmEvent → GmConfig
config_after config events = record config { class = class_after config.class events }

-- it after the events
abbrev pub after_all : Standing → List GmEvent → Standing
after_all gm [] = gm
after_all gm (event ∷ later) = after_all (standing_after gm event) later

-- the events, one after the other, make it send by the port of this index
unfoldable pub sends_by : Standing → ℕ → List GmEvent → List Departure
sends_by gm i [] = []
sends_by gm i (event ∷ later) = event_sends gm i event ++ sends_by (standing_after gm event) i later
