-- That a grandmaster of a script has taken a datagram.
use Rattle.std.proofs.Common.{◌≡◌, ◌∙◌, ◌↔◌, ℕ, List, [], ◌∷◌, ◌++◌, map, refl, sym, ap, ap₂, subst, Some, Result, Ok, Err}
use Rattle.std.proofs.lemmas.Simd.{map-map}
use Rattle.ptu_outside.specs.{Departure.{Departure}, declared.port.Port.{Ghosts as Ports}}
use Rattle.ptu_outside.specs.{HandsOver.{HandsOver}, MemoryPort.{MemoryPort}}
use Rattle.ptu_outside.specs.Telling.{IfTold, append_told}
use Rattle.ptu_outside.proofs.HandsOver.{hands_whole}
use Rattle.ptu_messages.specs.declared.header.Header.{Header}
use Rattle.ptu_units.specs.Client.{table_of}
use Rattle.ptu_history.specs.Core.{history_after, table_step_moment}
use Rattle.ptu_history.specs.{History.{Record}, Step.{delay_answer}}
use Rattle.ptu_shard.specs.declared.answered.Answered.{Answered}
use Rattle.ptu_shard.specs.declared.answered.Answered.TheVariants as answers
use Rattle.ptu_profile.specs.declared.grandmaster.GmConfig.{GmConfig}
use Rattle.ptu_shard.specs.Answered.{failed_by, met_by, moment_of_answer, responses, sent_by}
use Rattle.ptu_shard.specs.Messages.{response_of}
use Rattle.ptu_gm_messages.specs.declared.heard.Heard.{Heard}
use Rattle.ptu_gm_messages.specs.declared.heard.Heard.TheVariants as heard
use Rattle.ptu_gm_messages.specs.declared.{item.Item.{Item}, reason.GmReason.{GmReason}}
use Rattle.ptu_gm_messages.specs.Deciding.{answer_to, client_of, decisions_of, events_heard, events_of_datagram, opened_with}
use Rattle.ptu_gm_messages.specs.{Items.{heard_in}, Replies.{reply_to}}
use Rattle.ptu_outside.specs.declared.reply.Reply.{Reply}
use Rattle.ptu_outside.specs.declared.reply.Reply.TheVariants as sending
use Rattle.ptu_grandmaster.specs.declared.outcome.Taken.{Taken}
use Rattle.ptu_grandmaster.specs.declared.outcome.Taken.TheVariants.{Ignored, Delay, Asked}
use Rattle.ptu_grandmaster.specs.Gm.{KeptGm, StandsFor, table_at, with_table}
use Rattle.ptu_grandmaster.specs.Outcomes.{answers_seen, decision_seen}
use Rattle.ptu_grandmaster.specs.Taking.{ComesTo, IsAnswerTo, OnAsked, OnDelay, OnIgnored, Replies, Responds}
use Rattle.ptu_report_lines.specs.declared.statement.Statement.TheVariants as statements
use Rattle.ptu_world.specs.Deeds.{Grandmaster, Node, IsGrandmaster}
use Rattle.ptu_world.specs.Grandmasters.{answer_said, datagram_deed, decision_said, heard_deed, opening, reason_of, replies}
use Rattle.ptu_nodes.specs.{Doing.{HasDone}, GrandmasterPorts.{GoesOn, in_ports}}
use Rattle.ptu_nodes.specs.Noted.{Noted, with_handed, with_said}
use Rattle.ptu_nodes.specs.GrandmasterStatements.{IsAnswerSent, IsReplySent, IsSent, taken_said}
use Rattle.ptu_nodes.specs.Standing.{AreIdle, AreSure, IsGrandmasterNode, StandsAsGrandmaster}
use Rattle.ptu_nodes.proofs.GrandmasterChanges.{in_ports-reply}
use Rattle.ptu_nodes.proofs.GrandmasterDone.{all_handed, has_done, stands_after}
use Rattle.ptu_nodes.proofs.GrandmasterTurns.{idle_table, in_ports-table}

-- ---- the deed of what was heard

node_heard : (g : Grandmaster) (t from : ℕ) (h : Result Heard GmReason) →
    (heard_deed g t from h).node ≡ IsGrandmaster (record g { past = history_after (opening g) g.past (events_heard t from h) })
unfolding history_after
node_heard g t from (Err reason) = refl
node_heard g t from (Ok (heard.DelayReq header)) = refl
node_heard g t from (Ok (heard.Asks header items)) = refl

added_heard : (g : Grandmaster) (t from : ℕ) (h : Result Heard GmReason) → (heard_deed g t from h).added ≡ []
added_heard g t from (Err reason) = refl
added_heard g t from (Ok (heard.DelayReq header)) = refl
added_heard g t from (Ok (heard.Asks header items)) = refl

says_heard : (g : Grandmaster) (t from : ℕ) (h : Result Heard GmReason) (taken : Taken) → IsAnswerTo h taken →
    ComesTo (opening g) g.past t from h taken → taken_said taken ≡ (heard_deed g t from h).said
says_heard g t from (Err reason) (Ignored r) same comes = ap (λ r. statements.Ignored (reason_of r) ∷ []) same
says_heard g t from (Ok (heard.DelayReq header)) (Delay answered) is comes = ap₂ (λ x a. answer_said x a ∷ []) comes.0 comes.1
says_heard g t from (Ok (heard.Asks header items)) (Asked outcomes reply) is comes =
    sym (map-map decision_said decision_seen outcomes) ∙ ap (map decision_said) comes
says_heard g t from _ _ is comes = absurd is

-- ---- what it sends

-- of a port that tells: where no send failed it was sent all
pub told_all : (ports : Ports MemoryPort) (tells : (p : MemoryPort) → ports.sent p ≡ Some p.sent) (before after : MemoryPort) (ds : List Departure) (sent failed : ℕ) → HandsOver ports before after ds sent failed → failed ≡ 0
    → after.sent ≡ before.sent ++ ds
told_all ports tells before after ds sent failed h none =
    all_handed before.sent after.sent ds
    (subst (λ told. IfTold (Some after.sent) (append_told told ds)) (tells before)
    (subst (λ told. IfTold told (append_told (ports.sent before) ds)) (tells after) (hands_whole ports before after ds sent failed h none)))

idle_ports : (gm : KeptGm MemoryPort) → AreIdle gm → in_ports gm ≡ []
idle_ports gm (e0, e1, e2, e3, e4) = simp (e0, e1, e2, e3, e4)

not_failed : (answered : Answered) → IsAnswerSent answered → failed_by answered ≡ 0
not_failed (answers.Sent at) is = refl
not_failed (answers.Failed at) is = absurd is
not_failed (answers.NoGrant at) is = refl
not_failed (answers.TooSoon at earliest) is = refl

delay_sends : (ports : Ports MemoryPort) (tells : (p : MemoryPort) → ports.sent p ≡ Some p.sent) (config : GmConfig) (past : List Record) (t from : ℕ) (header : Header) (answered : Answered) (gm1 gm2 : KeptGm MemoryPort) → AreIdle gm1 → IsAnswerSent answered →
    (moment_of_answer answered ≡ table_step_moment past t (table_of (client_of from header)))
    × (met_by answered ≡ delay_answer past (table_step_moment past t (table_of (client_of from header))) (client_of from header)) →
    (let j = table_of (client_of from header) in
    Responds ports config (client_of from header) header answered (table_at j gm1).port (table_at j gm2).port) →
    gm2 ≡ with_table (table_of (client_of from header)) (table_at (table_of (client_of from header)) gm2) gm1 →
    in_ports gm2 ≡ responses (delay_answer past (table_step_moment past t (table_of (client_of from header))) (client_of from header))
    (response_of config (table_step_moment past t (table_of (client_of from header))) (client_of from header) header)
delay_sends ports tells config past t from header answered gm1 gm2 idle is comes sends rest =
    let j = table_of (client_of from header) in
    in_ports-table j gm1 gm2 idle rest
    ∙ told_all ports tells (table_at j gm1).port (table_at j gm2).port _ (sent_by answered) (failed_by answered) sends (not_failed answered is)
    ∙ ap (λ l. l ++ responses (met_by answered) (response_of config (moment_of_answer answered) (client_of from header) header)) (idle_table j gm1 idle)
    ∙ ap₂ (λ a x. responses a (response_of config x (client_of from header) header)) comes.1 comes.0

reply_sends : (ports : Ports MemoryPort) (tells : (p : MemoryPort) → ports.sent p ≡ Some p.sent) (g : Grandmaster) (t from : ℕ) (header : Header) (items : List Item) (answers : Departure) (reply : Reply) (before after : MemoryPort) →
    before.sent ≡ [] → IsReplySent reply → (reply ≡ sending.Nothing) ↔ (items ≡ []) → Replies ports reply before after answers →
    answers ≡ reply_to g.config from header (map answer_to (decisions_of (opening g) g.past t (client_of from header) items)) →
    after.sent ≡ replies g t from header items
reply_sends ports tells g t from header [] answers sending.Sent before after none is nothing sends same = absurd (cc (nothing.1 refl))
reply_sends ports tells g t from header (item ∷ items) answers sending.Sent before after none is nothing sends same =
    told_all ports tells before after (answers ∷ []) 1 0 sends refl ∙ ap₂ (λ l d. l ++ d ∷ []) none same
reply_sends ports tells g t from header items answers sending.Failed before after none is nothing sends same = absurd is
reply_sends ports tells g t from header [] answers sending.Nothing before after none is nothing sends same = ap (λ (p : MemoryPort). p.sent) sends ∙ none
reply_sends ports tells g t from header (item ∷ items) answers sending.Nothing before after none is nothing sends same = absurd (cc (nothing.0 refl))

pub sends_heard : (ports : Ports MemoryPort) (tells : (p : MemoryPort) → ports.sent p ≡ Some p.sent) (g : Grandmaster) (t from : ℕ) (h : Result Heard GmReason) (taken : Taken) (gm1 gm2 : KeptGm MemoryPort) → AreIdle gm1 → IsAnswerTo h taken →
    ComesTo (opening g) g.past t from h taken → IsSent taken →
    OnIgnored taken (gm2 ≡ gm1) →
    OnDelay h taken (λ header answered. let c = client_of from header in let j = table_of c in
    Responds ports g.config c header answered (table_at j gm1).port (table_at j gm2).port × (gm2 ≡ with_table j (table_at j gm2) gm1)) →
    OnAsked h taken (λ header outcomes reply.
    Replies ports reply gm1.reply gm2.reply (reply_to g.config from header (answers_seen outcomes))) →
    OnAsked h taken (λ header outcomes reply.
    (gm2.s0.port ≡ gm1.s0.port) × (gm2.s1.port ≡ gm1.s1.port) × (gm2.s2.port ≡ gm1.s2.port) × (gm2.s3.port ≡ gm1.s3.port)) →
    in_ports gm2 ≡ (heard_deed g t from h).sends
sends_heard ports tells g t from (Err reason) (Ignored r) gm1 gm2 idle answer comes is ignored delay reply tables = ap in_ports ignored ∙ idle_ports gm1 idle
sends_heard ports tells g t from (Ok (heard.DelayReq header)) (Delay answered) gm1 gm2 idle answer comes is ignored delay reply tables =
    delay_sends ports tells g.config g.past t from header answered gm1 gm2 idle is comes delay.0 delay.1
sends_heard ports tells g t from (Ok (heard.Asks header items)) (Asked outcomes sent) gm1 gm2 idle answer comes is ignored delay reply tables =
    in_ports-reply gm1 gm2 idle tables
    ∙ reply_sends ports tells g t from header items (reply_to g.config from header (answers_seen outcomes)) sent gm1.reply gm2.reply idle.4 is answer.1 reply
    (ap (λ ds. reply_to g.config from header (map answer_to ds)) comes)
sends_heard ports tells g t from _ _ gm1 gm2 idle answer comes is ignored delay reply tables = absurd answer

-- ---- a datagram is taken

module _ (ports : Ports MemoryPort) (tells : (p : MemoryPort) → ports.sent p ≡ Some p.sent) (ip t from : ℕ) (octets : List ℕ) (gm0 gm1 gm2 gm3 : KeptGm MemoryPort) (taken : Taken)
    (old said new : Noted) (g : Grandmaster)
    (is : IsGrandmasterNode (record { ip = ip; gm = gm0 }) g) (first : GoesOn gm0 gm1) (idle : AreIdle gm0 → AreIdle gm1)
    (answer : IsAnswerTo (heard_in gm1.config octets) taken)
    (ignored : OnIgnored taken (gm2 ≡ gm1))
    (delay : OnDelay (heard_in gm1.config octets) taken (λ header answered. let c = client_of from header in let j = table_of c in
    Responds ports gm1.config c header answered (table_at j gm1).port (table_at j gm2).port × (gm2 ≡ with_table j (table_at j gm2) gm1)))
    (reply : OnAsked (heard_in gm1.config octets) taken (λ header outcomes reply.
    Replies ports reply gm1.reply gm2.reply (reply_to gm1.config from header (answers_seen outcomes))))
    (tables : OnAsked (heard_in gm1.config octets) taken (λ header outcomes reply.
    (gm2.s0.port ≡ gm1.s0.port) × (gm2.s1.port ≡ gm1.s1.port) × (gm2.s2.port ≡ gm1.s2.port) × (gm2.s3.port ≡ gm1.s3.port)))
    (same_config : gm2.config ≡ gm1.config)
    (comes : (opening : ℕ) (history : List Record) → StandsFor opening gm1 history →
    ComesTo (opened_with opening gm1.config) history t from (heard_in gm1.config octets) taken)
    (stands : (opening : ℕ) (history : List Record) → StandsFor opening gm1 history →
    StandsFor opening gm2 (history_after (opened_with opening gm1.config) history (events_of_datagram gm1.config t from octets)))
    (says : said ≡ with_said (taken_said taken) old) (is_sent : IsSent taken)
    (handed : new ≡ with_handed ip (in_ports gm2) said) (last : GoesOn gm2 gm3) (idle' : AreIdle gm3) (sure' : AreSure gm3) where
  abbrev as_kept : Grandmaster
  as_kept = record g { config = gm1.config }

  abbrev what : Result Heard GmReason
  what = heard_in gm1.config octets

  stood : StandsFor g.capacity gm1 g.past
  stood = first.stands g.capacity g.past is.stands

  said_is : taken_said taken ≡ (heard_deed as_kept t from what).said
  said_is = says_heard as_kept t from what taken answer (comes g.capacity g.past stood)

  sends_are : in_ports gm2 ≡ (heard_deed as_kept t from what).sends
  sends_are = sends_heard ports tells as_kept t from what taken gm1 gm2 (idle is.idle) answer (comes g.capacity g.past stood) is_sent ignored delay reply tables

  node_is : StandsAsGrandmaster (record { ip = ip; gm = gm3 }) (heard_deed as_kept t from what).node
  node_is =
      subst (λ (n : Node). StandsAsGrandmaster (record { ip = ip; gm = gm3 }) n) (sym (node_heard as_kept t from what))
      (stands_after as_kept ip gm0 gm1 gm2 gm3 _ (record { ip = is.ip; config = first.config; stands = is.stands; idle = is.idle; sure = is.sure }) first same_config
      (stands g.capacity g.past stood) last idle' sure')

  taken_as_kept : HasDone (StandsAsGrandmaster (record { ip = ip; gm = gm3 })) ip (datagram_deed as_kept t from octets) old new
  taken_as_kept =
      has_done _ ip (datagram_deed as_kept t from octets) old said new node_is (added_heard as_kept t from what)
      (says ∙ ap (λ l. with_said l old) said_is) (subst (λ (l : List Departure). new ≡ with_handed ip l said) sends_are handed)

  pub take_done : HasDone (StandsAsGrandmaster (record { ip = ip; gm = gm3 })) ip (datagram_deed g t from octets) old new
  take_done =
      subst (λ (c : GmConfig). HasDone (StandsAsGrandmaster (record { ip = ip; gm = gm3 })) ip (datagram_deed (record g { config = c }) t from octets) old new)
      (sym (is.config ∙ sym first.config)) taken_as_kept
