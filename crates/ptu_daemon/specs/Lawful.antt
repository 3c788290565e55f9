-- What a grandmaster that is served keeps to, by the events that came: what the headline says of one of a script, in its words
-- (IEEE 1588-2019 clause 16.1).
use Rattle.std.specs.Prelude.{◌≡◌, ℕ, ◌==◌, if◌then◌else◌, filter_map, List, [], ◌∷◌, ◌++◌, length, Option, None, Ok}
use Rattle.std.specs.List.{cons_option}
use Rattle.ptu_outside.specs.Departure.{Departure}
use Rattle.ptu_messages.specs.declared.tlv.Tlv.{Tlv}
use Rattle.ptu_units.specs.Client.{table_of}
use Rattle.ptu_history.specs.History.{Record, Sent}
use Rattle.ptu_laws.specs.Promises.{KeepsPromises}
use Rattle.ptu_gm_messages.specs.declared.heard.Heard.TheVariants as heard
use Rattle.ptu_gm_messages.specs.declared.item.Item.TheVariants as items
use Rattle.ptu_gm_messages.specs.{Deciding.{answer_by}, Items.{heard_in}, Replies.{reply_to}}
use Rattle.ptu_grandmaster.specs.declared.driving.GmEvent.{GmEvent}
use Rattle.ptu_grandmaster.specs.declared.driving.GmEvent.TheVariants.{Take}
use Rattle.ptu_grandmaster.specs.Driven.{driven_history}
use Rattle.ptu_config.specs.declared.settings.GmSettings.{GmSettings}
use Rattle.ptu_world.specs.Deeds.{Grandmaster}
use Rattle.ptu_world.specs.Promises.{IsDecidedByRoom, Request, Timing, decision, message_in, timing_to}
use Rattle.ptu_daemon.specs.{Events.{config_of}, Sends.{config_after, sends_by}, Served.{opened_as}}

-- the history that the events make
abbrev pub history_by : GmSettings → List GmEvent → List Record
history_by settings events = driven_history (config_of settings) settings.capacity events

-- the grandmaster after them
abbrev pub served_gm : GmSettings → List GmEvent → Grandmaster
served_gm settings events =
    record {
      ip = settings.ip;
      config = config_after (config_of settings) events;
      capacity = settings.capacity;
      past = history_by settings events;
    }

-- ---- messages

-- the timing messages among datagrams
abbrev pub timings : List Departure → List Timing
timings sends = filter_map (λ (d : Departure). timing_to d.ip d.bytes) sends

-- of a record behind a history: its message, where its client is one of the table
abbrev pub table_message : ℕ → ℕ → List Record → Record → Option Timing
table_message j epoch before (Sent x c k) = if j == table_of c then message_in epoch before (Sent x c k) else None
table_message j epoch before _ = None

-- of records behind a history: the messages to the clients of the table
abbrev pub table_messages : ℕ → ℕ → List Record → List Record → List Timing
table_messages j epoch before [] = []
table_messages j epoch before (r ∷ rest) = cons_option (table_message j epoch before r) (table_messages j epoch (before ++ r ∷ []) rest)

-- ---- requests

-- the REQUEST is in the datagram with which this event takes it, which these are before and behind
pub record IsTaken (settings : GmSettings) (events earlier later : List GmEvent) (r : Request) : Type 0 where
  pub place : events ≡ earlier ++ Take r.handed.at r.handed.from r.handed.octets ∷ later
  pub gm : r.gm ≡ served_gm settings earlier
  pub heard : heard_in r.gm.config r.handed.octets ≡ Ok (heard.Asks r.header (r.before ++ items.Request r.ask ∷ r.behind))

-- among what is sent is the one reply to the datagram, in which its decision stands at its place among the items
pub record IsReplied (sends : List Departure) (r : Request) : Type 0 where
  pub sends_before : List Departure
  pub sends_behind : List Departure
  pub answers_before : List Tlv
  pub answers_behind : List Tlv
  pub reply : sends ≡ sends_before
      ++ reply_to r.gm.config r.handed.from r.header (answers_before ++ answer_by r.ask (decision r) ∷ answers_behind) ∷ sends_behind
  pub place : length answers_before ≡ length r.before
  pub answers : length (answers_before ++ answer_by r.ask (decision r) ∷ answers_behind) ≡ length (r.before ++ items.Request r.ask ∷ r.behind)

-- ---- all of it

-- of the events that came, and of what they make the grandmaster send
pub record IsLawful (settings : GmSettings) (events : List GmEvent) : Type 0 where
  -- held never above what is in force; each message pays a period of its own inside a live grant; up to each moment the messages
  -- are within the budget
  pub promises : KeepsPromises settings.capacity (history_by settings events)
  -- each REQUEST within the profile is granted exactly where it fits beside the other live grants, and else answered with the
  -- duration zero; and the one reply says so
  pub decided : (earlier later : List GmEvent) (r : Request) → IsTaken settings events earlier later r → IsDecidedByRoom r
  pub replied : (earlier later : List GmEvent) (r : Request) → IsTaken settings events earlier later r →
      IsReplied (sends_by (opened_as settings) 4 events) r
  -- the messages of the history to the clients of each table are, one for one and in order, what goes by the table's port; and no
  -- timing message goes by port 4, which is table 4 of none
  pub messages : (j : ℕ) → timings (sends_by (opened_as settings) j events) ≡ table_messages j settings.epoch [] (history_by settings events)
  pub signalings : timings (sends_by (opened_as settings) 4 events) ≡ []
