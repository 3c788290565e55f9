-- What a grandmaster of a script does.
use Rattle.std.specs.Prelude.{ℕ, Bool, true, false, List, [], ◌∷◌, map, Option, Some, None, unwrap_or, Result, Ok, Err}
use Rattle.ptu_units.specs.{declared.kind.Kind.{Kind}, Kind.{kind_of}}
use Rattle.ptu_messages.specs.declared.tlv.Ask.{Ask}
use Rattle.ptu_outside.specs.Departure.{Departure}
use Rattle.ptu_messages.specs.declared.header.Header.{Header}
use Rattle.ptu_history.specs.{Counts.{counts}, Core.{core_moment, history_after}}
use Rattle.ptu_history.specs.Events as events
use Rattle.ptu_history.specs.{Events.{Answer, Event}, Live.{Grant}, Shedding.{shed_grants}}
use Rattle.ptu_history.specs.{Step.{delay_answer}, Turns.{due_grants, message_of}}
use Rattle.ptu_history.specs.Verdict.{Config, Verdict, GrantedFor, ShortOf, Outside, OutsideCause, OutsideCode, OutsideLog, OutsideDuration}
use Rattle.ptu_shard.specs.{Answered.{responses}, Messages.{departure_of, response_of}}
use Rattle.ptu_gm_messages.specs.declared.{item.Item.{Item}, heard.Heard.{Heard}}
use Rattle.ptu_gm_messages.specs.declared.heard.Heard.TheVariants as heard
use Rattle.ptu_gm_messages.specs.declared.reason.GmReason.{GmReason}
use Rattle.ptu_gm_messages.specs.declared.reason.GmReason.TheVariants as ignored
use Rattle.ptu_gm_messages.specs.Items.{heard_in}
use Rattle.ptu_gm_messages.specs.Deciding.{Decision, Judged, Ended, client_of, decisions_of, events_of_items, opened_with, reply_after}
use Rattle.ptu_gm_messages.specs.Replies.{cancels_to, lease_of}
use Rattle.ptu_report_lines.specs.declared.decision.Decision as said
use Rattle.ptu_report_lines.specs.declared.decision.Decision.TheVariants as decisions
use Rattle.ptu_report_lines.specs.declared.delay.DelayAnswer.TheVariants as delays
use Rattle.ptu_report_lines.specs.declared.reason.Reason.{Reason}
use Rattle.ptu_report_lines.specs.declared.reason.Reason.TheVariants as reasons
use Rattle.ptu_report_lines.specs.declared.statement.Statement.{Statement}
use Rattle.ptu_report_lines.specs.declared.statement.Statement.TheVariants as statements
use Rattle.ptu_world.specs.Deeds.{Grandmaster, Node, IsGrandmaster, Deed}

-- ---- what is said

abbrev pub reason_of : GmReason → Reason
reason_of (ignored.Fault fault) = reasons.Fault fault
reason_of (ignored.UnknownType message_type) = reasons.Type message_type
reason_of (ignored.Other message_type) = reasons.Other message_type
reason_of (ignored.Domain domain) = reasons.Domain domain
reason_of ignored.Target = reasons.Target

-- of an ask whose messageType is of this kind, or of none
abbrev pub outside_of : Option Kind → Ask → OutsideCause → said.Decision
outside_of None ask cause = decisions.OutsideType ask.code
outside_of (Some k) ask OutsideCode = decisions.OutsideType ask.code
outside_of (Some k) ask OutsideLog = decisions.OutsideLog k ask.log
outside_of (Some k) ask OutsideDuration = decisions.OutsideDuration k ask.log ask.seconds

abbrev pub verdict_said : Ask → ℕ → Verdict → said.Decision
verdict_said ask x (GrantedFor k l seconds until) = decisions.Granted k l x until
verdict_said ask x (ShortOf k l others rate capacity) = decisions.Short k l x others rate capacity
verdict_said ask x (Outside cause) = outside_of (kind_of ask.code) ask cause

abbrev pub ending_said : ℕ → Option Kind → Option (ℕ × Bool) → said.Decision
ending_said code (Some k) (Some (x, true)) = decisions.Cancelled k x
ending_said code (Some k) (Some (x, false)) = decisions.Nothing k x
ending_said code _ _ = decisions.NoKind code

-- of what an item comes to
abbrev pub decision_said : Decision → Statement
decision_said (Judged ask at verdict) = statements.Decided (verdict_said ask (unwrap_or at 0) verdict)
decision_said (Ended code answer) = statements.Decided (ending_said code (kind_of code) answer)

-- of a Delay_Req at the moment
abbrev pub answer_said : ℕ → Answer → Statement
answer_said x events.Answered = statements.Asked (delays.Answered x)
answer_said x events.NoGrant = statements.Asked (delays.NoGrant x)
answer_said x (events.TooSoon earliest) = statements.Asked (delays.TooSoon x earliest)

abbrev pub shed_said : Grant → Statement
shed_said g = statements.Shed g.kind g.log g.client

-- ---- what is done

abbrev pub opening : Grandmaster → Config
opening gm = opened_with gm.capacity gm.config

-- it goes on with these events too, each of which is handed the moment
abbrev pub after : Grandmaster → List (ℕ × Event) → Node
after gm taken = IsGrandmaster (record gm { past = history_after (opening gm) gm.past taken })

-- the reply to items, where there are any
abbrev pub replies : Grandmaster → ℕ → ℕ → Header → List Item → List Departure
replies gm t from header [] = []
replies gm t from header items = reply_after gm.config (opening gm) gm.past t from header items ∷ []

-- it answers a Delay_Req that came from the address
abbrev pub delay_deed : Grandmaster → ℕ → ℕ → Header → Deed
delay_deed gm t from header =
    let c = client_of from header in
    let x = core_moment gm.past t (events.DelayReq c) in
    let answer = delay_answer gm.past x c in
    record {
      node = after gm ((t, events.DelayReq c) ∷ []);
      said = answer_said x answer ∷ [];
      sends = responses answer (response_of gm.config x c header);
      added = [];
    }

-- it takes what it heard from the address
abbrev pub heard_deed : Grandmaster → ℕ → ℕ → Result Heard GmReason → Deed
heard_deed gm t from (Err reason) =
    record { node = IsGrandmaster gm; said = statements.Ignored (reason_of reason) ∷ []; sends = []; added = [] }
heard_deed gm t from (Ok (heard.DelayReq header)) = delay_deed gm t from header
heard_deed gm t from (Ok (heard.Asks header items)) =
    let c = client_of from header in
    record {
      node = after gm (events_of_items t c items);
      said = map decision_said (decisions_of (opening gm) gm.past t c items);
      sends = replies gm t from header items;
      added = [];
    }

-- it takes a datagram that came from the address
abbrev pub datagram_deed : Grandmaster → ℕ → ℕ → List ℕ → Deed
datagram_deed gm t from octets = heard_deed gm t from (heard_in gm.config octets)

-- a table takes a turn
abbrev pub turn_deed : Grandmaster → ℕ → ℕ → Deed
turn_deed gm t j =
    let x = core_moment gm.past t (events.Turn j) in
    record {
      node = after gm ((t, events.Turn j) ∷ []);
      said = [];
      sends = map (λ g. departure_of gm.config x (message_of gm.past g)) (due_grants gm.past x j);
      added = [];
    }

-- its capacity changes
abbrev pub capacity_deed : Grandmaster → ℕ → ℕ → Deed
capacity_deed gm t capacity =
    let x = core_moment gm.past t (events.Resize capacity) in
    let shed = shed_grants gm.past x capacity in
    record {
      node = after gm ((t, events.Resize capacity) ∷ []);
      said = statements.Capacity gm.ip capacity x ∷ map shed_said shed;
      sends = cancels_to gm.config (counts gm.past).shed (map lease_of shed);
      added = [];
    }

-- its clockClass changes
abbrev pub class_deed : Grandmaster → ℕ → Deed
class_deed gm class =
    record { node = IsGrandmaster (record gm { config = record (gm.config) { class = class } }); said = []; sends = []; added = [] }
