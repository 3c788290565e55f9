-- What the grandmasters of a script do: the messages that they send, the events that they take, and how they decide on requests
-- (IEEE 1588-2019 clause 16.1).
use Rattle.std.specs.Prelude.{◌≡◌, ◌↔◌, ℕ, ◌+◌, ◌/◌, ◌%◌, ◌<◌, ◌≤◌, false, ◌==◌, if◌then◌else◌, filter_map, slice_index, List, [], ◌∷◌, ◌++◌, length, take, drop, Option, Some, None, option_map, Ok, Err, IsTrue}
use Rattle.std.specs.List.{cons_option}
use Rattle.ptu_units.specs.declared.kind.{Kind.{Kind}, Kind.TheVariants.{DelayResp}}
use Rattle.ptu_units.specs.{declared.client.Client.{Client}, Kind.{code_of}, Log.{rate_of}}
use Rattle.ptu_units.specs.Number.{octets_of}
use Rattle.ptu_messages.specs.{declared.header.Header.{Header}, HeaderSent.{sent_identity}}
use Rattle.ptu_messages.specs.declared.tlv.{Ask.{Ask}, Tlv.{Tlv}}
use Rattle.ptu_messages.specs.Sent.{sent_stamp}
use Rattle.ptu_history.specs.Core.{core_history, history_after}
use Rattle.ptu_history.specs.{Events.{Event}}
use Rattle.ptu_history.specs.History.{Record, Sent, capacity_in_force}
use Rattle.ptu_history.specs.{Runs.{sequence_number}}
use Rattle.ptu_history.specs.Verdict.{Verdict, Outside, OutsideCause, granted_seconds, others, profile, verdict}
use Rattle.ptu_laws.specs.{Granted.{is_granted, is_short}}
use Rattle.ptu_profile.specs.Grandmaster.{IsWithinLimits}
use Rattle.ptu_units.specs.{Limits.{IsCapacity}, Time.{second}}
use Rattle.ptu_gm_messages.specs.declared.item.Item.{Item}
use Rattle.ptu_gm_messages.specs.declared.item.Item.TheVariants as items
use Rattle.ptu_gm_messages.specs.declared.heard.Heard.TheVariants as heard
use Rattle.ptu_gm_messages.specs.Items.{heard_in}
use Rattle.ptu_gm_messages.specs.Deciding.{answer_by, asked_by, client_of, events_of_items, item_moment}
use Rattle.ptu_gm_messages.specs.Replies.{denial_of, grant_of, reply_to}
use Rattle.ptu_script.specs.declared.command.Command.{Command}
use Rattle.ptu_script.specs.declared.act.Act.TheVariants as acts
use Rattle.ptu_script.specs.declared.command.Command.TheVariants as commands
use Rattle.ptu_report_lines.specs.declared.sent.Sent as sending
use Rattle.ptu_report_lines.specs.declared.statement.Statement.{Statement}
use Rattle.ptu_report_lines.specs.declared.statement.Statement.TheVariants.{Decided}
use Rattle.ptu_world.specs.Deeds.{Grandmaster, IsGrandmaster}
use Rattle.ptu_world.specs.Grandmasters.{opening, verdict_said}
use Rattle.ptu_world.specs.World.{World, Done, datagram_numbered, sent_from, step, node_at}

-- ---- grandmasters

-- a grandmaster stands at its address, within its limits, and its history is that of some events
pub record IsRun (ip : ℕ) (gm : Grandmaster) : Type 0 where
  pub address : gm.ip ≡ ip
  pub config : IsWithinLimits gm.config
  pub capacity : IsCapacity gm.capacity
  pub events : List (ℕ × Event)
  pub past : gm.past ≡ core_history (opening gm) events

-- ---- messages

-- the messageType of a datagram: the low four bits of its first octet (IEEE 1588-2019 clause 13.3.2)
abbrev pub type_of : List ℕ → ℕ
type_of octets = slice_index octets 0 % 16

-- a timing message: where it goes, its messageType, the ten octets of the moment that it tells, and by which it is known: the
-- sequenceId of an Announce or a Sync, the requestingPortIdentity of a Delay_Resp (IEEE 1588-2019 clauses 13.3, 13.5, 13.6, 13.8)
pub record Timing : Type 0 where
  pub to : ℕ
  pub message_type : ℕ
  pub moment : List ℕ
  pub mark : List ℕ

abbrev pub mark_in : ℕ → List ℕ → List ℕ
mark_in message_type octets = if message_type == 9 then take 10 (drop 44 octets) else take 2 (drop 30 octets)

-- that of a datagram to an address, unless it is a Signaling
abbrev pub timing_to : ℕ → List ℕ → Option Timing
timing_to ip octets =
    if type_of octets == 12
    then None
    else Some (record { to = ip; message_type = type_of octets; moment = take 10 (drop 34 octets); mark = mark_in (type_of octets) octets })

-- likewise, where the node at this address sent it
abbrev pub timing_from : ℕ → sending.Sent → Option Timing
timing_from ip sent = if sent.from == ip then timing_to sent.to sent.octets else None

-- a message that is sent after a history has the number that is next there; a Delay_Resp answers its client
abbrev pub mark_of : List Record → Client → Kind → List ℕ
mark_of before c DelayResp = sent_identity (record { clock = c.clock; port = c.port })
mark_of before c k = octets_of 2 (sequence_number before c k)

-- of a record behind a history: its message, at a moment that is told from an epoch on
abbrev pub message_in : ℕ → List Record → Record → Option Timing
message_in epoch before (Sent x c k) =
    Some (record {
      to = c.ip;
      message_type = code_of k;
      moment = sent_stamp (record { seconds = epoch + x / second; nanos = x % second });
      mark = mark_of before c k;
    })
message_in epoch before _ = None

-- of records behind a history
abbrev pub messages_in : ℕ → List Record → List Record → List Timing
messages_in epoch before [] = []
messages_in epoch before (r ∷ rest) = cons_option (message_in epoch before r) (messages_in epoch (before ++ r ∷ []) rest)

-- the messages in a grandmaster's history are, one for one and in order, the datagrams that it sent but for Signaling
abbrev pub AreMessagesSent : World → ℕ → Grandmaster → Type 0
AreMessagesSent w ip gm = filter_map (timing_from ip) w.sent ≡ messages_in gm.config.epoch [] gm.past

-- ---- datagrams

-- a datagram that is handed to the node at an address, as from another
pub record Handed : Type 0 where
  pub at : ℕ
  pub node : ℕ
  pub from : ℕ
  pub octets : List ℕ

-- that which was sent is handed to the address that it was sent to, with the octets that were sent
abbrev pub delivery : ℕ → sending.Sent → Handed
delivery t sent = record { at = t; node = sent.to; from = sent.from; octets = sent.octets }

-- the datagram that a command hands to a node
abbrev pub handed_by : World → Command → Option Handed
handed_by w (commands.Event t ip (acts.Receive from octets)) = Some (record { at = t; node = ip; from = from; octets = octets })
handed_by w (commands.Deliver t number) = option_map (delivery t) (datagram_numbered number w.sent)
handed_by w _ = None

-- ---- events

-- a command is taken, and makes the grandmaster at an address go on with these events
pub record GoesOn (w : World) (command : Command) (ip : ℕ) (gm : Grandmaster) (events : List (ℕ × Event)) : Type 0 where
  pub done : Done
  pub step : step w command ≡ Ok done
  pub node : node_at done.world.nodes ip ≡ Some (IsGrandmaster (record gm { past = history_after (opening gm) gm.past events }))

-- the address of the node that a command sets up, changes or hands something to
abbrev pub addressed : World → Command → Option ℕ
addressed w (commands.Grandmaster setup) = Some setup.ip
addressed w (commands.Slave setup) = Some setup.ip
addressed w (commands.Master slave ip priority rule) = Some slave
addressed w (commands.Event t ip act) = Some ip
addressed w command = option_map (λ d. d.node) (handed_by w command)

-- ---- requests

-- a REQUEST in a Signaling to a grandmaster, with the items before and behind it
pub record Request : Type 0 where
  pub gm : Grandmaster
  pub handed : Handed
  pub header : Header
  pub before : List Item
  pub ask : Ask
  pub behind : List Item

-- the command hands it to the grandmaster
pub record IsHanded (w : World) (command : Command) (r : Request) : Type 0 where
  pub handed : handed_by w command ≡ Some r.handed
  pub node : node_at w.nodes r.handed.node ≡ Some (IsGrandmaster r.gm)
  pub heard : heard_in r.gm.config r.handed.octets ≡ Ok (heard.Asks r.header (r.before ++ items.Request r.ask ∷ r.behind))

abbrev pub client : Request → Client
client r = client_of r.handed.from r.header

-- the history after the items before it
abbrev pub history : Request → List Record
history r = history_after (opening r.gm) r.gm.past (events_of_items r.handed.at (client r) r.before)

abbrev pub moment : Request → ℕ
moment r = item_moment (history r) r.handed.at (client r)

abbrev pub decision : Request → Verdict
decision r = verdict (opening r.gm) (history r) (moment r) (client r) (asked_by r.ask)

-- the rates of the other live grants and its own, where it is for this kind
abbrev pub rates_with : Request → Kind → ℕ
rates_with r k = others (history r) (moment r) (client r) k + rate_of r.ask.log

abbrev pub capacity_then : Request → ℕ
capacity_then r = capacity_in_force r.gm.capacity (history r)

-- the command is taken, the grandmaster goes on with all the items, and the decision is said, and stands in the one reply, at the place of the REQUEST among the items
pub record IsAnswered (w : World) (command : Command) (r : Request) : Type 0 where
  pub done : Done
  pub step : step w command ≡ Ok done
  pub kept : node_at done.world.nodes r.handed.node ≡ Some (IsGrandmaster (record (r.gm) { past = history_after (opening r.gm) r.gm.past (events_of_items r.handed.at (client r) (r.before ++ items.Request r.ask ∷ r.behind)) }))
  pub said_before : List Statement
  pub said_behind : List Statement
  pub said : done.said ≡ said_before ++ Decided (verdict_said r.ask (moment r) (decision r)) ∷ said_behind
  pub said_place : length said_before ≡ length r.before
  pub answers_before : List Tlv
  pub answers_behind : List Tlv
  pub sent : done.world.sent ≡ w.sent ++ sent_from r.handed.node (reply_to r.gm.config r.handed.from r.header (answers_before ++ answer_by r.ask (decision r) ∷ answers_behind)) ∷ []
  pub answer_place : length answers_before ≡ length r.before
  pub answers : length (answers_before ++ answer_by r.ask (decision r) ∷ answers_behind) ≡ length (r.before ++ items.Request r.ask ∷ r.behind)

-- a REQUEST within the profile is granted exactly where its rate fits beside the other live grants, for the lesser of what
-- it asks for and the longest duration, and else answered with the duration zero; so is one outside the profile
pub record IsDecidedByRoom (r : Request) : Type 0 where
  pub granted : (k : Kind) → profile (asked_by r.ask) ≡ Ok k → IsTrue (is_granted (decision r)) ↔ (rates_with r k ≤ capacity_then r)
  pub short : (k : Kind) → profile (asked_by r.ask) ≡ Ok k → IsTrue (is_short (decision r)) ↔ (capacity_then r < rates_with r k)
  pub outside : (cause : OutsideCause) → profile (asked_by r.ask) ≡ Err cause → decision r ≡ Outside cause
  pub answer : IsTrue (is_granted (decision r)) → answer_by r.ask (decision r) ≡ grant_of r.ask (granted_seconds (opening r.gm) (asked_by r.ask))
  pub duration : IsTrue (is_granted (decision r)) → 60 ≤ granted_seconds (opening r.gm) (asked_by r.ask)
  pub denial : is_granted (decision r) ≡ false → answer_by r.ask (decision r) ≡ denial_of r.ask
