-- Each statement by its words: how they are written, and that each is a word.
use Rattle.std.proofs.Common.{◌≡◌, ℕ, suc, ◌≤◌, nat_le, true, List, [], ◌∷◌, ◌++◌, length, codes, Option, Some, None, ℤ, decimal, refl, ap, arith}
use Rattle.std.specs.{Fmt.{signed_decimal}, List.{list_all}}
use Rattle.std.proofs.lemmas.List.{length-append}
use Rattle.hex.specs.Hex.{encode_lower}
use Rattle.ptu_units.specs.declared.{client.Client.{Client}, kind.Kind.{Kind}}
use Rattle.ptu_units.specs.{Kind.{kind_of}, Log.{IsLogOf}}
use Rattle.ptu_messages.specs.declared.header_fault.HeaderFault.{HeaderFault}
use Rattle.ptu_messages.specs.declared.header_fault.HeaderFault.TheVariants as headers
use Rattle.ptu_messages.specs.declared.tlvs_fault.TlvFault.{TlvFault}
use Rattle.ptu_messages.specs.declared.tlvs_fault.TlvFault.TheVariants as tlvs
use Rattle.ptu_messages.specs.declared.fault.MessageFault.{MessageFault}
use Rattle.ptu_messages.specs.declared.fault.MessageFault.TheVariants as messages
use Rattle.ptu_script.specs.declared.cause.Cause.{Cause}
use Rattle.ptu_lines.specs.declared.cause.LineCause.TheVariants as line_causes
use Rattle.ptu_script.specs.declared.cause.Cause.TheVariants as causes
use Rattle.ptu_lines.specs.Texts.{address_text, identity_text, kind_text}
use Rattle.ptu_report_lines.specs.declared.decision.Decision.{Decision}
use Rattle.ptu_report_lines.specs.declared.decision.Decision.TheVariants as decisions
use Rattle.ptu_report_lines.specs.declared.delay.DelayAnswer.{DelayAnswer}
use Rattle.ptu_report_lines.specs.declared.delay.DelayAnswer.TheVariants as delays
use Rattle.ptu_report_lines.specs.declared.hearing.Hearing.{Hearing}
use Rattle.ptu_report_lines.specs.declared.hearing.Hearing.TheVariants as hearings
use Rattle.ptu_report_lines.specs.declared.signal.Received.{Received}
use Rattle.ptu_report_lines.specs.declared.signal.Received.TheVariants as receipts
use Rattle.ptu_report_lines.specs.declared.reason.Reason.{Reason}
use Rattle.ptu_report_lines.specs.declared.reason.Reason.TheVariants as reasons
use Rattle.ptu_report_lines.specs.declared.report_line.ReportLine.TheVariants as lines
use Rattle.ptu_report_lines.specs.declared.{sent.Sent.{Sent}, statement.Statement.{Statement}}
use Rattle.ptu_report_lines.specs.declared.statement.Statement.TheVariants as statements
use Rattle.ptu_report_lines.specs.Statements.{channel_text, code_text, kind_or_code, selected_text, statement_text, words_text}
use Rattle.ptu_report_lines.specs.Report.{line_text}
use Rattle.ptu_read_back.specs.Ranges.{IsAddress, IsDelayAnswerInRange, IsCause, IsClient, IsDecision, IsFault, IsHeaderFault, IsHearing, IsMaster, IsNumber, IsOctetLog, IsReason, IsReceived, IsStatement, IsTlvFault, IsSentInRange}
use Rattle.ptu_read_back.proofs.Words.{AreWords, IsWord, is_ink, spelled, word_wider, words_few}
use Rattle.ptu_read_back.proofs.Values.{address_word, channel_word, identity_word, kind_word, log_word, number_word, octet_of_kind, octets_word}

-- ---- the words behind the number

abbrev pub decision_words : Decision → List (List ℕ)
decision_words (decisions.Granted kind log at until) =
    codes "granted" ∷ kind_text kind ∷ signed_decimal log ∷ codes "at" ∷ decimal at ∷ codes "until" ∷ decimal until ∷ []
decision_words (decisions.Short kind log at others rate capacity) =
    codes "short" ∷ kind_text kind ∷ signed_decimal log ∷ codes "at" ∷ decimal at
    ∷ codes "others" ∷ decimal others ∷ codes "rate" ∷ decimal rate ∷ codes "capacity" ∷ decimal capacity ∷ []
decision_words (decisions.OutsideType code) = codes "outside" ∷ codes "type" ∷ decimal code ∷ []
decision_words (decisions.OutsideLog kind log) = codes "outside" ∷ codes "log" ∷ kind_text kind ∷ signed_decimal log ∷ []
decision_words (decisions.OutsideDuration kind log seconds) =
    codes "outside" ∷ codes "duration" ∷ kind_text kind ∷ signed_decimal log ∷ decimal seconds ∷ []
decision_words (decisions.Cancelled kind at) = codes "cancelled" ∷ kind_text kind ∷ codes "at" ∷ decimal at ∷ []
decision_words (decisions.Nothing kind at) = codes "nothing" ∷ kind_text kind ∷ codes "at" ∷ decimal at ∷ []
decision_words (decisions.NoKind code) = codes "nothing" ∷ decimal code ∷ []

abbrev pub delay_words : DelayAnswer → List (List ℕ)
delay_words (delays.Answered at) = codes "answered" ∷ codes "at" ∷ decimal at ∷ []
delay_words (delays.NoGrant at) = codes "silent" ∷ codes "nogrant" ∷ codes "at" ∷ decimal at ∷ []
delay_words (delays.TooSoon at earliest) = codes "silent" ∷ codes "soon" ∷ codes "at" ∷ decimal at ∷ codes "earliest" ∷ decimal earliest ∷ []

abbrev pub hearing_words : Hearing → List (List ℕ)
hearing_words (hearings.Announce master class at) =
    codes "heard" ∷ codes "announce" ∷ address_text master ∷ codes "class" ∷ decimal class ∷ codes "at" ∷ decimal at ∷ []
hearing_words (hearings.Sync master seq at) =
    codes "heard" ∷ codes "sync" ∷ address_text master ∷ codes "seq" ∷ decimal seq ∷ codes "at" ∷ decimal at ∷ []
hearing_words (hearings.FollowUp master at) = codes "heard" ∷ codes "follow_up" ∷ address_text master ∷ codes "at" ∷ decimal at ∷ []
hearing_words (hearings.DelayResp master seq at) =
    codes "heard" ∷ codes "delay_resp" ∷ address_text master ∷ codes "seq" ∷ decimal seq ∷ codes "at" ∷ decimal at ∷ []

abbrev pub received_words : Received → List (List ℕ)
received_words (receipts.Grant kind seconds) = codes "grant" ∷ kind_text kind ∷ decimal seconds ∷ []
received_words (receipts.Denial kind) = codes "denial" ∷ kind_text kind ∷ []
received_words (receipts.Cancel code) = codes "cancel" ∷ code_text code ∷ []
received_words (receipts.Ack code) = codes "ack" ∷ code_text code ∷ []

abbrev pub header_words : HeaderFault → List (List ℕ)
header_words (headers.Short have) = codes "short" ∷ decimal have ∷ []
header_words (headers.Version found) = codes "version" ∷ decimal found ∷ []
header_words (headers.Sdo found) = codes "sdo" ∷ decimal found ∷ []
header_words (headers.Length said have) = codes "length" ∷ decimal said ∷ decimal have ∷ []

abbrev pub tlv_words : TlvFault → List (List ℕ)
tlv_words (tlvs.Short have) = codes "short" ∷ decimal have ∷ []
tlv_words (tlvs.Overrun said have) = codes "overrun" ∷ decimal said ∷ decimal have ∷ []
tlv_words (tlvs.Length tlv_type said) = codes "length" ∷ decimal tlv_type ∷ decimal said ∷ []

abbrev pub fault_words : MessageFault → List (List ℕ)
fault_words (messages.Header fault) = header_words fault
fault_words (messages.Body said need) = codes "body" ∷ decimal said ∷ decimal need ∷ []
fault_words (messages.TooMany at) = codes "toomany" ∷ decimal at ∷ []
fault_words (messages.Tlv at fault) = codes "tlv" ∷ decimal at ∷ tlv_words fault
fault_words messages.OutOfMemory = codes "memory" ∷ []

abbrev pub reason_words : Reason → List (List ℕ)
reason_words (reasons.Fault fault) = codes "fault" ∷ fault_words fault
reason_words (reasons.Type code) = codes "type" ∷ decimal code ∷ []
reason_words (reasons.Other code) = codes "other" ∷ decimal code ∷ []
reason_words reasons.Stranger = codes "stranger" ∷ []
reason_words (reasons.Domain domain) = codes "domain" ∷ decimal domain ∷ []
reason_words reasons.Target = codes "target" ∷ []

abbrev pub cause_words : Cause → List (List ℕ)
cause_words (causes.Line line_causes.Size) = codes "size" ∷ []
cause_words (causes.Line line_causes.Long) = codes "long" ∷ []
cause_words (causes.Line line_causes.Text) = codes "text" ∷ []
cause_words (causes.Line line_causes.Word) = codes "word" ∷ []
cause_words (causes.Line line_causes.Count) = codes "count" ∷ []
cause_words (causes.Line (line_causes.Field number)) = codes "field" ∷ decimal number ∷ []
cause_words causes.Order = codes "order" ∷ []
cause_words causes.Node = codes "node" ∷ []
cause_words causes.Full = codes "full" ∷ []
cause_words causes.Number = codes "number" ∷ []
cause_words causes.Stock = codes "stock" ∷ []

abbrev pub words_in : Statement → List (List ℕ)
words_in (statements.Decided decision) = decision_words decision
words_in (statements.Asked answer) = delay_words answer
words_in (statements.Heard hearing) = hearing_words hearing
words_in (statements.Received received) = received_words received
words_in (statements.Ignored reason) = codes "ignored" ∷ reason_words reason
words_in (statements.Capacity grandmaster capacity at) =
    codes "capacity" ∷ address_text grandmaster ∷ decimal capacity ∷ codes "at" ∷ decimal at ∷ []
words_in (statements.Shed kind log client) =
    codes "shed" ∷ kind_text kind ∷ signed_decimal log ∷ address_text client.ip ∷ identity_text (record { clock = client.clock; port = client.port }) ∷ []
words_in statements.Nobody = codes "nobody" ∷ []
words_in (statements.Sent datagram sent) =
    codes "send" ∷ decimal datagram ∷ address_text sent.from ∷ address_text sent.to ∷ channel_text sent.channel ∷ encode_lower sent.octets ∷ []
words_in (statements.Selected slave master) = codes "selected" ∷ address_text slave ∷ selected_text master ∷ []
words_in (statements.Bad cause) = codes "bad" ∷ cause_words cause

-- ---- they are how the line is written

-- the text behind the number
abbrev Spells : ℕ → Statement → Type 0
Spells number statement = words_text (decimal number ∷ statement_text statement ∷ []) ≡ words_text (decimal number ∷ words_in statement)

spells_decision : (number : ℕ) (decision : Decision) → Spells number (statements.Decided decision)
spells_decision number (decisions.Granted kind log at until) = refl
spells_decision number (decisions.Short kind log at others rate capacity) = refl
spells_decision number (decisions.OutsideType code) = refl
spells_decision number (decisions.OutsideLog kind log) = refl
spells_decision number (decisions.OutsideDuration kind log seconds) = refl
spells_decision number (decisions.Cancelled kind at) = refl
spells_decision number (decisions.Nothing kind at) = refl
spells_decision number (decisions.NoKind code) = refl

spells_delay : (number : ℕ) (answer : DelayAnswer) → Spells number (statements.Asked answer)
spells_delay number (delays.Answered at) = refl
spells_delay number (delays.NoGrant at) = refl
spells_delay number (delays.TooSoon at earliest) = refl

spells_hearing : (number : ℕ) (hearing : Hearing) → Spells number (statements.Heard hearing)
spells_hearing number (hearings.Announce master class at) = refl
spells_hearing number (hearings.Sync master seq at) = refl
spells_hearing number (hearings.FollowUp master at) = refl
spells_hearing number (hearings.DelayResp master seq at) = refl

spells_received : (number : ℕ) (received : Received) → Spells number (statements.Received received)
spells_received number (receipts.Grant kind seconds) = refl
spells_received number (receipts.Denial kind) = refl
spells_received number (receipts.Cancel code) = refl
spells_received number (receipts.Ack code) = refl

spells_header : (number : ℕ) (fault : HeaderFault) → Spells number (statements.Ignored (reasons.Fault (messages.Header fault)))
spells_header number (headers.Short have) = refl
spells_header number (headers.Version found) = refl
spells_header number (headers.Sdo found) = refl
spells_header number (headers.Length said have) = refl

spells_tlv : (number at : ℕ) (fault : TlvFault) → Spells number (statements.Ignored (reasons.Fault (messages.Tlv at fault)))
spells_tlv number at (tlvs.Short have) = refl
spells_tlv number at (tlvs.Overrun said have) = refl
spells_tlv number at (tlvs.Length tlv_type said) = refl

spells_fault : (number : ℕ) (fault : MessageFault) → Spells number (statements.Ignored (reasons.Fault fault))
spells_fault number (messages.Header fault) = spells_header number fault
spells_fault number (messages.Body said need) = refl
spells_fault number (messages.TooMany at) = refl
spells_fault number (messages.Tlv at fault) = spells_tlv number at fault
spells_fault number messages.OutOfMemory = refl

spells_reason : (number : ℕ) (reason : Reason) → Spells number (statements.Ignored reason)
spells_reason number (reasons.Fault fault) = spells_fault number fault
spells_reason number (reasons.Type code) = refl
spells_reason number (reasons.Other code) = refl
spells_reason number reasons.Stranger = refl
spells_reason number (reasons.Domain domain) = refl
spells_reason number reasons.Target = refl

spells_cause : (number : ℕ) (cause : Cause) → Spells number (statements.Bad cause)
spells_cause number (causes.Line line_causes.Size) = refl
spells_cause number (causes.Line line_causes.Long) = refl
spells_cause number (causes.Line line_causes.Text) = refl
spells_cause number (causes.Line line_causes.Word) = refl
spells_cause number (causes.Line line_causes.Count) = refl
spells_cause number (causes.Line (line_causes.Field k)) = refl
spells_cause number causes.Order = refl
spells_cause number causes.Node = refl
spells_cause number causes.Full = refl
spells_cause number causes.Number = refl
spells_cause number causes.Stock = refl

spells : (number : ℕ) (statement : Statement) → Spells number statement
spells number (statements.Decided decision) = spells_decision number decision
spells number (statements.Asked answer) = spells_delay number answer
spells number (statements.Heard hearing) = spells_hearing number hearing
spells number (statements.Received received) = spells_received number received
spells number (statements.Ignored reason) = spells_reason number reason
spells number (statements.Capacity grandmaster capacity at) = refl
spells number (statements.Shed kind log client) = refl
spells number statements.Nobody = refl
spells number (statements.Sent datagram sent) = refl
spells number (statements.Selected slave master) = refl
spells number (statements.Bad cause) = spells_cause number cause

pub spelled_at : (number : ℕ) (statement : Statement) → line_text (lines.At number statement) ≡ words_text (decimal number ∷ words_in statement) ++ 10 ∷ []
spelled_at number statement = ap (λ text. text ++ codes "\n") (spells number statement)

-- ---- each is a word of at most 40 octets, but for the octets of a datagram

number_40 : (n : ℕ) → IsNumber n → IsWord 40 (decimal n)
number_40 n h = word_wider 19 40 (decimal n) (omega arith) (number_word n h)

kind_40 : (kind : Kind) → IsWord 40 (kind_text kind)
kind_40 kind = word_wider 10 40 (kind_text kind) (omega arith) (kind_word kind)

address_40 : (ip : ℕ) → IsAddress ip → IsWord 40 (address_text ip)
address_40 ip h = word_wider 15 40 (address_text ip) (omega arith) (address_word ip h)

log_40 : (z : ℤ) → IsOctetLog z → IsWord 40 (signed_decimal z)
log_40 z h = word_wider 20 40 (signed_decimal z) (omega arith) (log_word z h)

log_of_kind_40 : (kind : Kind) (z : ℤ) → IsLogOf kind z → IsWord 40 (signed_decimal z)
log_of_kind_40 kind z h = log_40 z (octet_of_kind kind z h)

abbrev literal : (word : List ℕ) → list_all is_ink word ≡ true → nat_le (length word) 40 ≡ true → IsWord 40 word
literal word h few = spelled word 40 h few

words_of_decision : (decision : Decision) → IsDecision decision → AreWords 40 12 (decision_words decision)
words_of_decision (decisions.Granted kind log at until) h =
    (literal (codes "granted") refl refl, (kind_40 kind, (log_of_kind_40 kind log h.0, (literal (codes "at") refl refl, (number_40 at h.1, (literal (codes "until") refl refl, (number_40 until h.2, tt)))))))
words_of_decision (decisions.Short kind log at others rate capacity) h = (
  literal (codes "short") refl refl,
  (
    kind_40 kind,
    (
      log_of_kind_40 kind log h.0,
      (
        literal (codes "at") refl refl,
        (
          number_40 at h.1,
          (
            literal (codes "others") refl refl,
            (
              number_40 others h.2,
              (literal (codes "rate") refl refl, (number_40 rate h.3, (literal (codes "capacity") refl refl, (number_40 capacity h.4, tt)))),
            ),
          ),
        ),
      ),
    ),
  ),
)
words_of_decision (decisions.OutsideType code) h = (literal (codes "outside") refl refl, (literal (codes "type") refl refl, (number_40 code h, tt)))
words_of_decision (decisions.OutsideLog kind log) h =
    (literal (codes "outside") refl refl, (literal (codes "log") refl refl, (kind_40 kind, (log_40 log h.0, tt))))
words_of_decision (decisions.OutsideDuration kind log seconds) h =
    (literal (codes "outside") refl refl, (literal (codes "duration") refl refl, (kind_40 kind, (log_of_kind_40 kind log h.0, (number_40 seconds h.1, tt)))))
words_of_decision (decisions.Cancelled kind at) h = (literal (codes "cancelled") refl refl, (kind_40 kind, (literal (codes "at") refl refl, (number_40 at h, tt))))
words_of_decision (decisions.Nothing kind at) h = (literal (codes "nothing") refl refl, (kind_40 kind, (literal (codes "at") refl refl, (number_40 at h, tt))))
words_of_decision (decisions.NoKind code) h = (literal (codes "nothing") refl refl, (number_40 code h, tt))

words_of_delay : (answer : DelayAnswer) → IsDelayAnswerInRange answer → AreWords 40 12 (delay_words answer)
words_of_delay (delays.Answered at) h = (literal (codes "answered") refl refl, (literal (codes "at") refl refl, (number_40 at h, tt)))
words_of_delay (delays.NoGrant at) h =
    (literal (codes "silent") refl refl, (literal (codes "nogrant") refl refl, (literal (codes "at") refl refl, (number_40 at h, tt))))
words_of_delay (delays.TooSoon at earliest) h =
    (literal (codes "silent") refl refl, (literal (codes "soon") refl refl, (literal (codes "at") refl refl, (number_40 at h.0, (literal (codes "earliest") refl refl, (number_40 earliest h.1, tt))))))

words_of_hearing : (hearing : Hearing) → IsHearing hearing → AreWords 40 12 (hearing_words hearing)
words_of_hearing (hearings.Announce master class at) h =
    (literal (codes "heard") refl refl, (literal (codes "announce") refl refl, (address_40 master h.0, (literal (codes "class") refl refl, (number_40 class h.1, (literal (codes "at") refl refl, (number_40 at h.2, tt)))))))
words_of_hearing (hearings.Sync master seq at) h =
    (literal (codes "heard") refl refl, (literal (codes "sync") refl refl, (address_40 master h.0, (literal (codes "seq") refl refl, (number_40 seq h.1, (literal (codes "at") refl refl, (number_40 at h.2, tt)))))))
words_of_hearing (hearings.FollowUp master at) h =
    (literal (codes "heard") refl refl, (literal (codes "follow_up") refl refl, (address_40 master h.0, (literal (codes "at") refl refl, (number_40 at h.1, tt)))))
words_of_hearing (hearings.DelayResp master seq at) h =
    (literal (codes "heard") refl refl, (literal (codes "delay_resp") refl refl, (address_40 master h.0, (literal (codes "seq") refl refl, (number_40 seq h.1, (literal (codes "at") refl refl, (number_40 at h.2, tt)))))))

code_word : (code : ℕ) → IsNumber code → IsWord 40 (code_text code)
code_word code h = by (kind_of code)
  where
    by : (o : Option Kind) → IsWord 40 (kind_or_code o code)
    by None = number_40 code h
    by (Some kind) = kind_40 kind

words_of_received : (received : Received) → IsReceived received → AreWords 40 12 (received_words received)
words_of_received (receipts.Grant kind seconds) h = (literal (codes "grant") refl refl, (kind_40 kind, (number_40 seconds h, tt)))
words_of_received (receipts.Denial kind) h = (literal (codes "denial") refl refl, (kind_40 kind, tt))
words_of_received (receipts.Cancel code) h = (literal (codes "cancel") refl refl, (code_word code h, tt))
words_of_received (receipts.Ack code) h = (literal (codes "ack") refl refl, (code_word code h, tt))

words_of_header : (fault : HeaderFault) → IsHeaderFault fault → AreWords 40 10 (header_words fault)
words_of_header (headers.Short have) h = (literal (codes "short") refl refl, (number_40 have h, tt))
words_of_header (headers.Version found) h = (literal (codes "version") refl refl, (number_40 found h, tt))
words_of_header (headers.Sdo found) h = (literal (codes "sdo") refl refl, (number_40 found h, tt))
words_of_header (headers.Length said have) h = (literal (codes "length") refl refl, (number_40 said h.0, (number_40 have h.1, tt)))

words_of_tlv : (fault : TlvFault) → IsTlvFault fault → AreWords 40 8 (tlv_words fault)
words_of_tlv (tlvs.Short have) h = (literal (codes "short") refl refl, (number_40 have h, tt))
words_of_tlv (tlvs.Overrun said have) h = (literal (codes "overrun") refl refl, (number_40 said h.0, (number_40 have h.1, tt)))
words_of_tlv (tlvs.Length tlv_type said) h = (literal (codes "length") refl refl, (number_40 tlv_type h.0, (number_40 said h.1, tt)))

words_of_fault : (fault : MessageFault) → IsFault fault → AreWords 40 10 (fault_words fault)
words_of_fault (messages.Header fault) h = words_of_header fault h
words_of_fault (messages.Body said need) h = (literal (codes "body") refl refl, (number_40 said h.0, (number_40 need h.1, tt)))
words_of_fault (messages.TooMany at) h = (literal (codes "toomany") refl refl, (number_40 at h, tt))
words_of_fault (messages.Tlv at fault) h = (literal (codes "tlv") refl refl, (number_40 at h.0, words_of_tlv fault h.1))
words_of_fault messages.OutOfMemory h = absurd h

words_of_reason : (reason : Reason) → IsReason reason → AreWords 40 11 (reason_words reason)
words_of_reason (reasons.Fault fault) h = (literal (codes "fault") refl refl, words_of_fault fault h)
words_of_reason (reasons.Type code) h = (literal (codes "type") refl refl, (number_40 code h, tt))
words_of_reason (reasons.Other code) h = (literal (codes "other") refl refl, (number_40 code h, tt))
words_of_reason reasons.Stranger h = (literal (codes "stranger") refl refl, tt)
words_of_reason (reasons.Domain domain) h = (literal (codes "domain") refl refl, (number_40 domain h, tt))
words_of_reason reasons.Target h = (literal (codes "target") refl refl, tt)

words_of_cause : (cause : Cause) → IsCause cause → AreWords 40 11 (cause_words cause)
words_of_cause (causes.Line line_causes.Size) h = (literal (codes "size") refl refl, tt)
words_of_cause (causes.Line line_causes.Long) h = (literal (codes "long") refl refl, tt)
words_of_cause (causes.Line line_causes.Text) h = (literal (codes "text") refl refl, tt)
words_of_cause (causes.Line line_causes.Word) h = (literal (codes "word") refl refl, tt)
words_of_cause (causes.Line line_causes.Count) h = (literal (codes "count") refl refl, tt)
words_of_cause (causes.Line (line_causes.Field number)) h = (literal (codes "field") refl refl, (number_40 number h, tt))
words_of_cause causes.Order h = (literal (codes "order") refl refl, tt)
words_of_cause causes.Node h = (literal (codes "node") refl refl, tt)
words_of_cause causes.Full h = (literal (codes "full") refl refl, tt)
words_of_cause causes.Number h = (literal (codes "number") refl refl, tt)
words_of_cause causes.Stock h = (literal (codes "stock") refl refl, tt)

words_of_selected : (slave : ℕ) (master : Option ℕ) → IsAddress slave → IsMaster master
    → AreWords 40 12 (codes "selected" ∷ address_text slave ∷ selected_text master ∷ [])
words_of_selected slave None h k = (literal (codes "selected") refl refl, (address_40 slave h, (literal (codes "none") refl refl, tt)))
words_of_selected slave (Some master) h k = (literal (codes "selected") refl refl, (address_40 slave h, (address_40 master k, tt)))

words_of_shed : (kind : Kind) (log : ℤ) (client : Client) → IsLogOf kind log → IsClient client → AreWords 40 12 (words_in (statements.Shed kind log client))
words_of_shed kind log client h k = (
  literal (codes "shed") refl refl,
  (
    kind_40 kind,
    (
      log_of_kind_40 kind log h,
      (
        address_40 client.ip k.ip,
        (word_wider 36 40 (identity_text (record { clock = client.clock; port = client.port })) (omega arith) (identity_word (record { clock = client.clock; port = client.port }) k.port), tt),
      ),
    ),
  ),
)

-- ---- a whole line

-- words of a line, which are cut again and not too long
pub record AreSpoken (word : List ℕ) (words : List (List ℕ)) : Type 0 where
  pub most : ℕ
  pub count : ℕ
  pub words_are : AreWords most (suc count) (word ∷ words)
  pub few : length (words_text (word ∷ words)) ≤ 8192

short_spoken : (number : ℕ) (words : List (List ℕ)) → IsNumber number → AreWords 40 12 words → AreSpoken (decimal number) words
short_spoken number words h k =
    let all : AreWords 40 13 (decimal number ∷ words) = (number_40 number h, k) in
    record { most = 40; count = 12; words_are = all; few = omega (arith, words_few 13 (decimal number ∷ words) all) }

sent_spoken : (number datagram : ℕ) (sent : Sent) → IsNumber number → IsNumber datagram → IsSentInRange sent → AreSpoken (decimal number) (words_in (statements.Sent datagram sent))
sent_spoken number datagram sent h k s = record {
  most = 4096;
  count = 6;
  words_are = (
    wide 19 (decimal number) (omega arith) (number_word number h),
    (
      wide 4 (codes "send") (omega arith) (spelled (codes "send") 4 refl refl),
      (
        wide 19 (decimal datagram) (omega arith) (number_word datagram k),
        (
          wide 15 (address_text sent.from) (omega arith) (address_word sent.from s.from),
          (wide 15 (address_text sent.to) (omega arith) (address_word sent.to s.to), (wide 7 (channel_text sent.channel) (omega arith) (channel_word sent.channel), (last, tt))),
        ),
      ),
    ),
  );
  few = few;
}
  where
    wide : (n : ℕ) (word : List ℕ) → n ≤ 4096 → IsWord n word → IsWord 4096 word
    wide n word le w = word_wider n 4096 word le w

    last : IsWord 4096 (encode_lower sent.octets)
    last = octets_word sent.octets s.octets s.few

    few : length (words_text (decimal number ∷ words_in (statements.Sent datagram sent))) ≤ 8192
    few =
        let d = decimal datagram in
        let f = address_text sent.from in
        let t = address_text sent.to in
        let c = channel_text sent.channel in
        let o = encode_lower sent.octets in
        let five = length-append c (32 ∷ o) in
        let four = length-append t (32 ∷ (c ++ 32 ∷ o)) in
        let three = length-append f (32 ∷ (t ++ 32 ∷ (c ++ 32 ∷ o))) in
        let two = length-append d (32 ∷ (f ++ 32 ∷ (t ++ 32 ∷ (c ++ 32 ∷ o)))) in
        let one = length-append (decimal number) (32 ∷ (codes "send" ++ 32 ∷ (d ++ 32 ∷ (f ++ 32 ∷ (t ++ 32 ∷ (c ++ 32 ∷ o)))))) in
        omega (arith, one, two, three, four, five, last.1, (number_word number h).1, (number_word datagram k).1, (address_word sent.from s.from).1, (address_word sent.to s.to).1, (channel_word sent.channel).1)

pub spoken : (number : ℕ) (statement : Statement) → IsNumber number → IsStatement statement → AreSpoken (decimal number) (words_in statement)
spoken number (statements.Decided decision) h k = short_spoken number _ h (words_of_decision decision k)
spoken number (statements.Asked answer) h k = short_spoken number _ h (words_of_delay answer k)
spoken number (statements.Heard hearing) h k = short_spoken number _ h (words_of_hearing hearing k)
spoken number (statements.Received received) h k = short_spoken number _ h (words_of_received received k)
spoken number (statements.Ignored reason) h k = short_spoken number _ h (literal (codes "ignored") refl refl, words_of_reason reason k)
spoken number (statements.Capacity grandmaster capacity at) h k =
    short_spoken number _ h (literal (codes "capacity") refl refl, (address_40 grandmaster k.0, (number_40 capacity k.1, (literal (codes "at") refl refl, (number_40 at k.2, tt)))))
spoken number (statements.Shed kind log client) h k = short_spoken number _ h (words_of_shed kind log client k.0 k.1)
spoken number statements.Nobody h k = short_spoken number _ h (literal (codes "nobody") refl refl, tt)
spoken number (statements.Sent datagram sent) h k = sent_spoken number datagram sent h k.0 k.1
spoken number (statements.Selected slave master) h k = short_spoken number _ h (words_of_selected slave master k.0 k.1)
spoken number (statements.Bad cause) h k = short_spoken number _ h (literal (codes "bad") refl refl, words_of_cause cause k)

pub end_spoken : (count datagrams : ℕ) → IsNumber count → IsNumber datagrams → AreSpoken (codes "end") (decimal count ∷ decimal datagrams ∷ [])
end_spoken count datagrams h k =
    let all : AreWords 40 13 (codes "end" ∷ decimal count ∷ decimal datagrams ∷ []) = (literal (codes "end") refl refl, (number_40 count h, (number_40 datagrams k, tt))) in
    record { most = 40; count = 12; words_are = all; few = omega (arith, words_few 13 (codes "end" ∷ decimal count ∷ decimal datagrams ∷ []) all) }
