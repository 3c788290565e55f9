-- What happens at a line of a script, and how it is written. The words are the project's own choice.
use Rattle.std.specs.Prelude.{ℕ, ◌∷◌, [], List, ◌++◌, codes, Option, Some, None}
use Rattle.std.specs.Fmt.{decimal, signed_decimal}
use Rattle.hex.specs.Hex.{encode_lower}
use Rattle.ptu_units.specs.{declared.kind.Kind.{Kind}, Kind.{kind_of}}
use Rattle.ptu_outside.specs.declared.channel.Channel.{Channel}
use Rattle.ptu_outside.specs.declared.channel.Channel.TheVariants.{Event, General}
use Rattle.ptu_units.specs.declared.client.Client.{Client}
use Rattle.ptu_lines.specs.{Texts.{address_text, identity_text, kind_text}, Faults.{fault_text}}
use Rattle.ptu_script.specs.Cause as causes
use Rattle.ptu_report_lines.specs.declared.decision.Decision.{Decision}
use Rattle.ptu_report_lines.specs.declared.decision.Decision.TheVariants as decisions
use Rattle.ptu_report_lines.specs.declared.delay.DelayAnswer.{DelayAnswer}
use Rattle.ptu_report_lines.specs.declared.delay.DelayAnswer.TheVariants as delays
use Rattle.ptu_report_lines.specs.declared.hearing.Hearing.{Hearing}
use Rattle.ptu_report_lines.specs.declared.hearing.Hearing.TheVariants as hearings
use Rattle.ptu_report_lines.specs.declared.signal.Received.{Received}
use Rattle.ptu_report_lines.specs.declared.signal.Received.TheVariants as receipts
use Rattle.ptu_report_lines.specs.declared.reason.Reason.{Reason}
use Rattle.ptu_report_lines.specs.declared.reason.Reason.TheVariants as reasons
use Rattle.ptu_report_lines.specs.declared.{sent.Sent.{Sent}, statement.Statement.{Statement}}
use Rattle.ptu_report_lines.specs.declared.statement.Statement.TheVariants as statements

-- words, with one space between two of them
abbrev pub words_text : List (List ℕ) → List ℕ
words_text [] = []
words_text (word ∷ []) = word
words_text (word ∷ words) = word ++ 32 ∷ words_text words

abbrev pub decision_text : Decision → List ℕ
decision_text (decisions.Granted kind log at until) =
    words_text (codes "granted" ∷ kind_text kind ∷ signed_decimal log ∷ codes "at" ∷ decimal at ∷ codes "until" ∷ decimal until ∷ [])
decision_text (decisions.Short kind log at others rate capacity) =
    words_text (codes "short" ∷ kind_text kind ∷ signed_decimal log ∷ codes "at" ∷ decimal at
    ∷ codes "others" ∷ decimal others ∷ codes "rate" ∷ decimal rate ∷ codes "capacity" ∷ decimal capacity ∷ [])
decision_text (decisions.OutsideType code) = words_text (codes "outside" ∷ codes "type" ∷ decimal code ∷ [])
decision_text (decisions.OutsideLog kind log) = words_text (codes "outside" ∷ codes "log" ∷ kind_text kind ∷ signed_decimal log ∷ [])
decision_text (decisions.OutsideDuration kind log seconds) =
    words_text (codes "outside" ∷ codes "duration" ∷ kind_text kind ∷ signed_decimal log ∷ decimal seconds ∷ [])
decision_text (decisions.Cancelled kind at) = words_text (codes "cancelled" ∷ kind_text kind ∷ codes "at" ∷ decimal at ∷ [])
decision_text (decisions.Nothing kind at) = words_text (codes "nothing" ∷ kind_text kind ∷ codes "at" ∷ decimal at ∷ [])
decision_text (decisions.NoKind code) = words_text (codes "nothing" ∷ decimal code ∷ [])

abbrev pub delay_text : DelayAnswer → List ℕ
delay_text (delays.Answered at) = words_text (codes "answered" ∷ codes "at" ∷ decimal at ∷ [])
delay_text (delays.NoGrant at) = words_text (codes "silent" ∷ codes "nogrant" ∷ codes "at" ∷ decimal at ∷ [])
delay_text (delays.TooSoon at earliest) =
    words_text (codes "silent" ∷ codes "soon" ∷ codes "at" ∷ decimal at ∷ codes "earliest" ∷ decimal earliest ∷ [])

abbrev pub hearing_text : Hearing → List ℕ
hearing_text (hearings.Announce master class at) =
    words_text (codes "announce" ∷ address_text master ∷ codes "class" ∷ decimal class ∷ codes "at" ∷ decimal at ∷ [])
hearing_text (hearings.Sync master seq at) =
    words_text (codes "sync" ∷ address_text master ∷ codes "seq" ∷ decimal seq ∷ codes "at" ∷ decimal at ∷ [])
hearing_text (hearings.FollowUp master at) =
    words_text (codes "follow_up" ∷ address_text master ∷ codes "at" ∷ decimal at ∷ [])
hearing_text (hearings.DelayResp master seq at) =
    words_text (codes "delay_resp" ∷ address_text master ∷ codes "seq" ∷ decimal seq ∷ codes "at" ∷ decimal at ∷ [])

abbrev pub kind_or_code : Option Kind → ℕ → List ℕ
kind_or_code None code = decimal code
kind_or_code (Some kind) code = kind_text kind

-- a messageType: the name of its kind, or its number where it is no kind
abbrev pub code_text : ℕ → List ℕ
code_text code = kind_or_code (kind_of code) code

abbrev pub received_text : Received → List ℕ
received_text (receipts.Grant kind seconds) = words_text (codes "grant" ∷ kind_text kind ∷ decimal seconds ∷ [])
received_text (receipts.Denial kind) = words_text (codes "denial" ∷ kind_text kind ∷ [])
received_text (receipts.Cancel code) = words_text (codes "cancel" ∷ code_text code ∷ [])
received_text (receipts.Ack code) = words_text (codes "ack" ∷ code_text code ∷ [])

abbrev pub reason_text : Reason → List ℕ
reason_text (reasons.Fault fault) = words_text (codes "fault" ∷ fault_text fault ∷ [])
reason_text (reasons.Type code) = words_text (codes "type" ∷ decimal code ∷ [])
reason_text (reasons.Other code) = words_text (codes "other" ∷ decimal code ∷ [])
reason_text reasons.Stranger = codes "stranger"
reason_text (reasons.Domain domain) = words_text (codes "domain" ∷ decimal domain ∷ [])
reason_text reasons.Target = codes "target"

abbrev pub channel_text : Channel → List ℕ
channel_text Event = codes "event"
channel_text General = codes "general"

abbrev pub sent_text : ℕ → Sent → List ℕ
sent_text datagram sent =
    words_text (codes "send" ∷ decimal datagram ∷ address_text sent.from ∷ address_text sent.to
    ∷ channel_text sent.channel ∷ encode_lower sent.octets ∷ [])

-- the address of the master that is selected, or `none`
abbrev pub selected_text : Option ℕ → List ℕ
selected_text None = codes "none"
selected_text (Some master) = address_text master

-- the address and the port identity of a client
abbrev pub client_text : Client → List ℕ
client_text c = words_text (address_text c.ip ∷ identity_text (record { clock = c.clock; port = c.port }) ∷ [])

abbrev pub statement_text : Statement → List ℕ
statement_text (statements.Decided decision) = decision_text decision
statement_text (statements.Asked answer) = delay_text answer
statement_text (statements.Heard hearing) = words_text (codes "heard" ∷ hearing_text hearing ∷ [])
statement_text (statements.Received received) = received_text received
statement_text (statements.Ignored reason) = words_text (codes "ignored" ∷ reason_text reason ∷ [])
statement_text (statements.Capacity grandmaster capacity at) =
    words_text (codes "capacity" ∷ address_text grandmaster ∷ decimal capacity ∷ codes "at" ∷ decimal at ∷ [])
statement_text (statements.Shed kind log client) =
    words_text (codes "shed" ∷ kind_text kind ∷ signed_decimal log ∷ client_text client ∷ [])
statement_text statements.Nobody = codes "nobody"
statement_text (statements.Sent datagram sent) = sent_text datagram sent
statement_text (statements.Selected slave master) =
    words_text (codes "selected" ∷ address_text slave ∷ selected_text master ∷ [])
statement_text (statements.Bad cause) = words_text (codes "bad" ∷ causes.cause_text cause ∷ [])
