-- How a datagram is written as one line of text.
use Rattle.std.specs.Prelude.{ℕ, ◌==◌, Bool, if◌then◌else◌, List, [], ◌++◌, codes, Result, Ok, Err}
use Rattle.std.specs.{List.{flat_map}, Fmt.{decimal, signed_decimal}}
use Rattle.ptu_units.specs.declared.stamp.Stamp.{Stamp}
use Rattle.ptu_units.specs.Number.{number_at}
use Rattle.ptu_messages.specs.declared.tlv.{Ask.{Ask}, Tlv.{Tlv}}
use Rattle.ptu_messages.specs.declared.tlv.Tlv.TheVariants as tlvs
use Rattle.ptu_messages.specs.declared.message.Body.{Body}
use Rattle.ptu_messages.specs.declared.message.Body.TheVariants as bodies
use Rattle.ptu_messages.specs.declared.message.Message.{Message}
use Rattle.ptu_messages.specs.{declared.fault.MessageFault.{MessageFault}, Reading.{message_in}}
use Rattle.ptu_lines.specs.{Texts.{clock_text, identity_text}, Faults.{fault_text}}

-- the name of a messageType (IEEE 1588-2019 table 36), or its number
abbrev pub type_text : ℕ → List ℕ
type_text message_type =
    if message_type == 0 then codes "sync"
    else if message_type == 1 then codes "delay_req"
    else if message_type == 8 then codes "follow_up"
    else if message_type == 9 then codes "delay_resp"
    else if message_type == 11 then codes "announce"
    else if message_type == 12 then codes "signaling"
    else codes "type " ++ decimal message_type

-- seconds and nanoseconds
abbrev pub stamp_text : Stamp → List ℕ
stamp_text stamp = codes " stamp " ++ (decimal stamp.seconds ++ (codes " " ++ decimal stamp.nanos))

-- code, logarithm and seconds
abbrev pub ask_text : Ask → List ℕ
ask_text ask = decimal ask.code
    ++ (codes " " ++ (signed_decimal ask.log ++ (codes " " ++ decimal ask.seconds)))

-- R
abbrev pub renewal_text : Bool → List ℕ
renewal_text renewal = if renewal then codes "1" else codes "0"

abbrev pub tlv_text : Tlv → List ℕ
tlv_text (tlvs.Request ask) = codes " request " ++ ask_text ask
tlv_text (tlvs.Grant ask renewal) =
    codes " grant " ++ (ask_text ask ++ (codes " " ++ renewal_text renewal))
tlv_text (tlvs.Cancel code) = codes " cancel " ++ decimal code
tlv_text (tlvs.Ack code) = codes " ack " ++ decimal code
tlv_text (tlvs.Other tlv_type n) = codes " other " ++ (decimal tlv_type ++ (codes " " ++ decimal n))

-- what stands behind the header
abbrev pub body_text : Body → List ℕ
body_text (bodies.Sync stamp) = stamp_text stamp
body_text (bodies.DelayReq stamp) = stamp_text stamp
body_text (bodies.FollowUp stamp) = stamp_text stamp
body_text (bodies.DelayResp stamp requester) =
    stamp_text stamp ++ (codes " to " ++ identity_text requester)
body_text (bodies.Announce body) =
    codes " class " ++ (decimal body.class
    ++ (codes " steps " ++ (decimal body.steps
    ++ (codes " grandmaster " ++ clock_text body.grandmaster))))
body_text (bodies.Signaling target list) =
    codes " to " ++ (identity_text target ++ flat_map tlv_text list)
body_text bodies.Ignored = []

-- a message of this messageLength, without the number of its line
abbrev pub message_text : ℕ → Message → List ℕ
message_text n message =
    type_text message.header.message_type
    ++ (codes " length " ++ (decimal n
    ++ (codes " domain " ++ (decimal message.header.domain
    ++ (codes " from " ++ (identity_text message.header.source
    ++ (codes " seq " ++ (decimal message.header.sequence
    ++ body_text message.body))))))))

-- what was read of octets that have this messageLength: the message, or the fault
abbrev pub reading_text : ℕ → Result Message MessageFault → List ℕ
reading_text n (Ok message) = message_text n message
reading_text n (Err fault) = codes "fault " ++ fault_text fault

-- a datagram in words
unfoldable pub datagram_text : List ℕ → List ℕ
datagram_text octets = reading_text (number_at octets 2 2) (message_in octets)
