-- The ranges of what a line of a report is written of: those of its types, and those that its words can say.
use Rattle.std.specs.Prelude.{ℕ, ◌<◌, ◌≤◌, ◌^◌, ℤ, pos, negsuc, ◌≤ℤ◌, length, Option, Some, None}
use Rattle.hex.specs.Hex.{IsBytes}
use Rattle.ptu_units.specs.{declared.client.Client.{Client}, Log.{IsLogOf}}
use Rattle.ptu_messages.specs.declared.header_fault.HeaderFault.{HeaderFault}
use Rattle.ptu_messages.specs.declared.header_fault.HeaderFault.TheVariants as headers
use Rattle.ptu_messages.specs.declared.tlvs_fault.TlvFault.{TlvFault}
use Rattle.ptu_messages.specs.declared.tlvs_fault.TlvFault.TheVariants as tlvs
use Rattle.ptu_messages.specs.declared.fault.MessageFault.{MessageFault}
use Rattle.ptu_messages.specs.declared.fault.MessageFault.TheVariants as messages
use Rattle.ptu_script.specs.declared.cause.Cause.{Cause}
use Rattle.ptu_lines.specs.declared.cause.LineCause.TheVariants as line_causes
use Rattle.ptu_script.specs.declared.cause.Cause.TheVariants as causes
use Rattle.ptu_report_lines.specs.declared.decision.Decision.{Decision}
use Rattle.ptu_report_lines.specs.declared.decision.Decision.TheVariants as decisions
use Rattle.ptu_report_lines.specs.declared.delay.DelayAnswer.{DelayAnswer}
use Rattle.ptu_report_lines.specs.declared.delay.DelayAnswer.TheVariants as delays
use Rattle.ptu_report_lines.specs.declared.hearing.Hearing.{Hearing}
use Rattle.ptu_report_lines.specs.declared.hearing.Hearing.TheVariants as hearings
use Rattle.ptu_report_lines.specs.declared.signal.Received.{Received}
use Rattle.ptu_report_lines.specs.declared.signal.Received.TheVariants as receipts
use Rattle.ptu_report_lines.specs.declared.reason.Reason.{Reason}
use Rattle.ptu_report_lines.specs.declared.reason.Reason.TheVariants as reasons
use Rattle.ptu_report_lines.specs.declared.report_line.ReportLine.{ReportLine}
use Rattle.ptu_report_lines.specs.declared.report_line.ReportLine.TheVariants as lines
use Rattle.ptu_report_lines.specs.declared.{sent.Sent.{Sent}, statement.Statement.{Statement}}
use Rattle.ptu_report_lines.specs.declared.statement.Statement.TheVariants as statements

-- NUM says numbers of at most 19 digits; moments, rates, counts and numbers of fields are far below
abbrev pub IsNumber : ℕ → Type 0
IsNumber n = n < 10 ^ 19

abbrev pub IsAddress : ℕ → Type 0
IsAddress ip = ip < 2 ^ 32

-- a signed octet
abbrev pub IsOctetLog : ℤ → Type 0
IsOctetLog log = (negsuc 127 ≤ℤ log) × (log ≤ℤ pos 127)

-- each field is as wide as its type
pub record IsClient (client : Client) : Type 0 where
  pub ip : IsAddress client.ip
  pub clock : client.clock < 2 ^ 64
  pub port : client.port ≤ 65535

-- a datagram that is not empty, with at most 2048 octets
pub record IsSentInRange (sent : Sent) : Type 0 where
  pub from : IsAddress sent.from
  pub to : IsAddress sent.to
  pub octets : IsBytes sent.octets
  pub some : 1 ≤ length sent.octets
  pub few : length sent.octets ≤ 2048

-- a grant, a lack of room and a duration are told of a logarithm in the range of the kind, and only a fault of the
-- logarithm of one outside
abbrev pub IsDecision : Decision → Type 0
IsDecision (decisions.Granted kind log at until) = IsLogOf kind log × IsNumber at × IsNumber until
IsDecision (decisions.Short kind log at others rate capacity) =
    IsLogOf kind log × IsNumber at × IsNumber others × IsNumber rate × IsNumber capacity
IsDecision (decisions.OutsideType code) = IsNumber code
IsDecision (decisions.OutsideLog kind log) = IsOctetLog log × (IsLogOf kind log → ⊥)
IsDecision (decisions.OutsideDuration kind log seconds) = IsLogOf kind log × IsNumber seconds
IsDecision (decisions.Cancelled kind at) = IsNumber at
IsDecision (decisions.Nothing kind at) = IsNumber at
IsDecision (decisions.NoKind code) = IsNumber code

abbrev pub IsDelayAnswerInRange : DelayAnswer → Type 0
IsDelayAnswerInRange (delays.Answered at) = IsNumber at
IsDelayAnswerInRange (delays.NoGrant at) = IsNumber at
IsDelayAnswerInRange (delays.TooSoon at earliest) = IsNumber at × IsNumber earliest

abbrev pub IsHearing : Hearing → Type 0
IsHearing (hearings.Announce master class at) = IsAddress master × IsNumber class × IsNumber at
IsHearing (hearings.Sync master seq at) = IsAddress master × IsNumber seq × IsNumber at
IsHearing (hearings.FollowUp master at) = IsAddress master × IsNumber at
IsHearing (hearings.DelayResp master seq at) = IsAddress master × IsNumber seq × IsNumber at

abbrev pub IsReceived : Received → Type 0
IsReceived (receipts.Grant kind seconds) = IsNumber seconds
IsReceived (receipts.Denial kind) = Unit {0}
IsReceived (receipts.Cancel code) = IsNumber code
IsReceived (receipts.Ack code) = IsNumber code

abbrev pub IsHeaderFault : HeaderFault → Type 0
IsHeaderFault (headers.Short have) = IsNumber have
IsHeaderFault (headers.Version found) = IsNumber found
IsHeaderFault (headers.Sdo found) = IsNumber found
IsHeaderFault (headers.Length said have) = IsNumber said × IsNumber have

abbrev pub IsTlvFault : TlvFault → Type 0
IsTlvFault (tlvs.Short have) = IsNumber have
IsTlvFault (tlvs.Overrun said have) = IsNumber said × IsNumber have
IsTlvFault (tlvs.Length tlv_type said) = IsNumber tlv_type × IsNumber said

-- want of memory is no fault of a datagram, and the reader has no form of it
abbrev pub IsFault : MessageFault → Type 0
IsFault (messages.Header fault) = IsHeaderFault fault
IsFault (messages.Body said need) = IsNumber said × IsNumber need
IsFault (messages.TooMany at) = IsNumber at
IsFault (messages.Tlv at fault) = IsNumber at × IsTlvFault fault
IsFault messages.OutOfMemory = ⊥

abbrev pub IsReason : Reason → Type 0
IsReason (reasons.Fault fault) = IsFault fault
IsReason (reasons.Type code) = IsNumber code
IsReason (reasons.Other code) = IsNumber code
IsReason reasons.Stranger = Unit {0}
IsReason (reasons.Domain domain) = IsNumber domain
IsReason reasons.Target = Unit {0}

abbrev pub IsMaster : Option ℕ → Type 0
IsMaster None = Unit {0}
IsMaster (Some master) = IsAddress master

abbrev pub IsCause : Cause → Type 0
IsCause (causes.Line (line_causes.Field number)) = IsNumber number
IsCause _ = Unit {0}

abbrev pub IsStatement : Statement → Type 0
IsStatement (statements.Decided decision) = IsDecision decision
IsStatement (statements.Asked answer) = IsDelayAnswerInRange answer
IsStatement (statements.Heard hearing) = IsHearing hearing
IsStatement (statements.Received received) = IsReceived received
IsStatement (statements.Ignored reason) = IsReason reason
IsStatement (statements.Capacity grandmaster capacity at) = IsAddress grandmaster × IsNumber capacity × IsNumber at
IsStatement (statements.Shed kind log client) = IsLogOf kind log × IsClient client
IsStatement statements.Nobody = Unit {0}
IsStatement (statements.Sent datagram sent) = IsNumber datagram × IsSentInRange sent
IsStatement (statements.Selected slave master) = IsAddress slave × IsMaster master
IsStatement (statements.Bad cause) = IsCause cause

-- all that a line of a report is written of is in its range
abbrev pub IsReportLineInRange : ReportLine → Type 0
IsReportLineInRange (lines.At number statement) = IsNumber number × IsStatement statement
IsReportLineInRange (lines.End count datagrams) = IsNumber count × IsNumber datagrams
