-- What a message that a slave takes is to it: an event, and what its caller is told of it (IEEE 1588-2019 clauses 13 and 16.1).
use Rattle.std.specs.Prelude.{ℕ, ⊤, cond, ◌==◌, ◌≤◌, List, [], ◌∷◌, All, length, map, filter_map, Option, Some, None, option_map, Result, Ok, Err}
use Rattle.ptu_units.specs.declared.kind.Kind.{Kind}
use Rattle.ptu_messages.specs.declared.tlv.Tlv.{Tlv}
use Rattle.ptu_messages.specs.declared.tlv.Tlv.TheVariants as tlv
use Rattle.ptu_messages.specs.TlvsSent.{IsSendable}
use Rattle.ptu_messages.specs.declared.message.Body.{Body}
use Rattle.ptu_messages.specs.declared.message.Body.TheVariants as body
use Rattle.ptu_messages.specs.declared.message.Message.{Message}
use Rattle.ptu_outside.specs.Departure.{Departure}
use Rattle.ptu_record.specs.declared.wants.Wants.{Wants}
use Rattle.ptu_record.specs.Step.{Signal as Said, GrantTlv, CancelTlv, AckTlv, SlaveEvent, TakeAnnounce, TakeSync, TakeFollowUp, TakeDelayResp, TakeSignaling, cancel_code, one_reply, wanted_kind}
use Rattle.ptu_record.specs.Tick.{Sending}
use Rattle.ptu_profile.specs.declared.slave.{Master.{Master}, SlaveConfig.{SlaveConfig}}
use Rattle.ptu_slave_messages.specs.declared.content.Content.{Content}
use Rattle.ptu_slave_messages.specs.declared.content.Content.TheVariants as content
use Rattle.ptu_slave_messages.specs.declared.{content.Accepted.{Accepted}, heard.Heard.{Heard}}
use Rattle.ptu_slave_messages.specs.declared.heard.Heard.TheVariants as heard
use Rattle.ptu_outside.specs.declared.reply.{Reply.{Reply}, Reply.TheVariants.{Sent, Nothing}}
use Rattle.ptu_slave_messages.specs.declared.reason.SlaveReason.{SlaveReason}
use Rattle.ptu_slave_messages.specs.declared.signal.Signal.{Signal}
use Rattle.ptu_slave_messages.specs.declared.signal.Signal.TheVariants.{Grant, Denial, Cancel, Ack}
use Rattle.ptu_slave_messages.specs.Sending.{sending_departure}

-- ---- the event

-- what a TLV says to a slave; a REQUEST, and a TLV of another type, says nothing
abbrev pub said_by : Tlv → Option Said
said_by (tlv.Grant ask invited) = Some (GrantTlv ask.code ask.seconds)
said_by (tlv.Cancel code) = Some (CancelTlv code)
said_by (tlv.Ack code) = Some (AckTlv code)
said_by v = None

-- the event of a message of the master at a place; messages of the last two bodies are not taken
abbrev pub event_of : ℕ → Message → SlaveEvent
event_of m message = elim message.body as (λ _. SlaveEvent) [
  | body.Announce announce ↦ TakeAnnounce m announce.class
  | body.Sync stamp ↦ TakeSync m message.header.sequence
  | body.FollowUp stamp ↦ TakeFollowUp m
  | body.DelayResp stamp requester ↦ TakeDelayResp m message.header.sequence
  | body.Signaling target tlvs ↦ TakeSignaling m message.header.sequence (filter_map said_by tlvs)
  | body.DelayReq stamp ↦ TakeFollowUp m
  | body.Ignored ↦ TakeFollowUp m
]

-- what answers it: one reply to the CANCELs of a Signaling
abbrev pub replies_to : ℕ → Message → List Sending
replies_to m message = elim message.body as (λ _. List Sending) [
  | body.Signaling target tlvs ↦ one_reply m message.header.sequence (filter_map cancel_code (filter_map said_by tlvs))
  | _ ↦ []
]

-- the datagrams of the reply to a message
abbrev pub reply_datagrams : SlaveConfig → List Master → ℕ × Message → List Departure
reply_datagrams config masters (m, message) = map (sending_departure config masters message.header.source) (replies_to m message)

-- the same of a datagram, by what it is to the slave
abbrev pub replies_in : SlaveConfig → List Master → Result (ℕ × Message) SlaveReason → List Departure
replies_in config masters (Err reason) = []
replies_in config masters (Ok taken) = reply_datagrams config masters taken

-- ---- what the caller is told

-- a GRANT is told where the slave requests its kind, as a denial where it is for 0 seconds
abbrev pub grant_signal : ℕ → Kind → Signal
grant_signal seconds k = cond (seconds == 0) (Denial k) (Grant k seconds)

-- what is told of a TLV: of a GRANT of another kind, of a REQUEST, and of a TLV of another type nothing
abbrev pub signal_by : Wants → Tlv → Option Signal
signal_by wants (tlv.Grant ask invited) = option_map (grant_signal ask.seconds) (wanted_kind wants ask.code)
signal_by wants (tlv.Cancel code) = Some (Cancel code)
signal_by wants (tlv.Ack code) = Some (Ack code)
signal_by wants v = None

abbrev pub signals_of : Wants → List Tlv → List Signal
signals_of wants tlvs = filter_map (signal_by wants) tlvs

-- of a message at the moment x
abbrev pub heard_of : Wants → ℕ → Reply → ℕ × Message → Heard
heard_of wants x reply (m, message) = elim message.body as (λ _. Heard) [
  | body.Announce announce ↦ heard.Announce x m announce.class
  | body.Sync stamp ↦ heard.Sync x m message.header.sequence
  | body.FollowUp stamp ↦ heard.FollowUp x m
  | body.DelayResp stamp requester ↦ heard.DelayResp x m message.header.sequence
  | body.Signaling target tlvs ↦ heard.Signals x m (signals_of wants tlvs) reply
  | body.DelayReq stamp ↦ heard.FollowUp x m
  | body.Ignored ↦ heard.FollowUp x m
]

-- of a datagram, by what it is to the slave
abbrev pub answer_of : Wants → ℕ → Reply → Result (ℕ × Message) SlaveReason → Heard
answer_of wants x reply (Err reason) = heard.Ignored reason
answer_of wants x reply (Ok taken) = heard_of wants x reply taken

-- what became of the reply to a CANCEL
abbrev pub reply_in : Heard → Reply
reply_in (heard.Signals x m list reply) = reply
reply_in h = Nothing

-- what became of so many replies that were all sent
abbrev pub reply_by : {A : Type 0} → List A → Reply
reply_by [] = Nothing
reply_by (x ∷ xs) = Sent

-- ---- what is kept of a message between reading and taking it

-- the ACKNOWLEDGE_CANCEL that answers a TLV
abbrev pub ack_by : Tlv → Option Tlv
ack_by (tlv.Cancel code) = Some (tlv.Ack code)
ack_by v = None

abbrev pub acks_of : List Tlv → List Tlv
acks_of tlvs = filter_map ack_by tlvs

-- they fit a Signaling, and can be sent
abbrev pub FitsReply : Content → Type 0
FitsReply (content.Signals list acks) = (length acks ≤ 32) × All IsSendable acks
FitsReply c = ⊤

abbrev pub content_of : Wants → Body → Content
content_of wants (body.Announce announce) = content.Announce announce.class
content_of wants (body.Sync stamp) = content.Sync
content_of wants (body.FollowUp stamp) = content.FollowUp
content_of wants (body.DelayResp stamp requester) = content.DelayResp
content_of wants (body.Signaling target tlvs) = content.Signals (signals_of wants tlvs) (acks_of tlvs)
content_of wants (body.DelayReq stamp) = content.FollowUp
content_of wants body.Ignored = content.FollowUp

abbrev pub taken_of : Wants → ℕ × Message → Accepted
taken_of wants (m, message) = record {
  master = m;
  source = message.header.source;
  sequence = message.header.sequence;
  content = content_of wants message.body;
}

abbrev pub taken_or_not : Wants → Result (ℕ × Message) SlaveReason → Result Accepted SlaveReason
taken_or_not wants (Err reason) = Err reason
taken_or_not wants (Ok taken) = Ok (taken_of wants taken)
