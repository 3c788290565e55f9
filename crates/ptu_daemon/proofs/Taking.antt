-- That a datagram was taken.
use Rattle.std.proofs.Common.{◌≡◌, ◌↔◌, ℕ, ◌+◌, ◌%◌, ◌<◌, ◌==◌, Bool, true, false, if◌then◌else◌, List, [], ◌∷◌, map, refl, sym, ap, ap₂, subst, arith, Result, Ok, Err}
use Rattle.ptu_outside.specs.{declared.port.Port.{Ghosts as Ports}, Departure.{Departure}}
use Rattle.ptu_messages.specs.declared.header.Header.{Header}
use Rattle.ptu_units.specs.Client.{table_of}
use Rattle.ptu_history.specs.Core.{history_after, table_step_moment}
use Rattle.ptu_history.specs.{History.{Record}, Step.{delay_answer}}
use Rattle.ptu_shard.specs.declared.answered.Answered.{Answered}
use Rattle.ptu_shard.specs.Answered.{failed_by, met_by, moment_of_answer, responses, sent_by}
use Rattle.ptu_shard.specs.Messages.{response_of}
use Rattle.ptu_gm_messages.specs.declared.heard.Heard.{Heard}
use Rattle.ptu_gm_messages.specs.declared.heard.Heard.TheVariants as heard
use Rattle.ptu_gm_messages.specs.declared.{item.Item.{Item}, reason.GmReason.{GmReason}}
use Rattle.ptu_gm_messages.specs.Deciding.{answer_to, client_of, decisions_of, events_of_datagram, opened_with}
use Rattle.ptu_gm_messages.specs.{Items.{heard_in}, Replies.{reply_to}}
use Rattle.ptu_grandmaster.specs.declared.driving.GmEvent.TheVariants.{Take}
use Rattle.ptu_grandmaster.specs.declared.outcome.Outcome.{Outcome}
use Rattle.ptu_outside.specs.declared.reply.Reply.{Reply}
use Rattle.ptu_outside.specs.declared.reply.Reply.TheVariants as replies
use Rattle.ptu_grandmaster.specs.declared.outcome.Taken.{Taken}
use Rattle.ptu_grandmaster.specs.declared.outcome.Taken.TheVariants.{Ignored, Delay, Asked}
use Rattle.ptu_grandmaster.specs.Gm.{KeptGm, StandsFor, five_ports, table_at, with_table}
use Rattle.ptu_grandmaster.specs.Outcomes.{answers_seen, decisions_seen}
use Rattle.ptu_grandmaster.specs.Taking.{ComesTo, IsAnswerTo, OnAsked, OnDelay, OnIgnored, Replies, Responds}
use Rattle.ptu_outside.specs.Replies.{reply_failed, reply_sent}
use Rattle.ptu_daemon.specs.Counting.{failed_for, sent_for}
use Rattle.ptu_daemon.specs.Ran.{AllHandled, Does, Handled, standing_as}
use Rattle.ptu_daemon.specs.Sends.{by, heard_sends}
use Rattle.ptu_daemon.proofs.Changing.{reply_handled}
use Rattle.ptu_daemon.proofs.Handling.{all_same, five_handled, handled_same, hands_handled}
use Rattle.ptu_daemon.proofs.Turning.{table_handled}

-- a table is one of the four
table_below : (n : ℕ) → n % 4 < 4
table_below n = omega arith

either_same : (b : Bool) (xs : List Departure) → xs ≡ (if b then xs else xs)
either_same true xs = refl
either_same false xs = refl

module _ {P : Type 0} (ports : Ports P) where
  -- ---- one reply

  -- what became of a reply, of which there is none where there is nothing to answer
  reply_of : (reply : Reply) (old new : P) (d : Departure) (sends : List Departure) →
      Replies ports reply old new d →
      (reply ≡ replies.Nothing → sends ≡ []) → (¬ (reply ≡ replies.Nothing) → sends ≡ d ∷ []) →
      Handled ports sends (reply_sent reply) (reply_failed reply) 0 old new
  reply_of replies.Sent old new d sends h none some =
      subst (λ l. Handled ports l 1 0 0 old new) (sym (some (λ e. absurd (cc)))) (hands_handled ports old new (d ∷ []) 1 0 h)
  reply_of replies.Failed old new d sends h none some =
      subst (λ l. Handled ports l 0 1 0 old new) (sym (some (λ e. absurd (cc)))) (hands_handled ports old new (d ∷ []) 0 1 h)
  reply_of replies.Nothing old new d sends h none some =
      subst (λ l. Handled ports l 0 0 0 old new) (sym (none refl)) (handled_same ports old new h)

  -- ---- what was heard

  all_same_port : (old new : KeptGm P) (sends : ℕ → List Departure) → ((i : ℕ) → sends i ≡ []) → new ≡ old → AllHandled ports sends 0 0 0 0 (five_ports old) (five_ports new)
  all_same_port old new sends none same =
      all_same ports (λ i. []) sends 0 0 0 0 (five_ports old) (five_ports new) none
      (five_handled ports (λ i. []) old new 0 0 0 0 0 0 0 0 0 0 0 0 0
      (handled_same ports _ _ (ap (λ g. g.s0.port) same)) (handled_same ports _ _ (ap (λ g. g.s1.port) same)) (handled_same ports _ _ (ap (λ g. g.s2.port) same))
      (handled_same ports _ _ (ap (λ g. g.s3.port) same)) (handled_same ports _ _ (ap (λ g. g.reply) same)) (omega arith) (omega arith))

  module _ (old new : KeptGm P) (t from : ℕ) (opening : ℕ) (past : List Record) where
    abbrev SendsFor : Result Heard GmReason → Taken → Type 0
    SendsFor what taken =
        AllHandled ports (λ i. heard_sends (standing_as old opening past) i t from what) 0 (sent_for taken) (failed_for taken) 0 (five_ports old) (five_ports new)

    delay_sends : (header : Header) (answered : Answered) →
        (let c = client_of from header in let j = table_of c in
        Responds ports old.config c header answered (table_at j old).port (table_at j new).port × (new ≡ with_table j (table_at j new) old)) →
        (let c = client_of from header in
        (moment_of_answer answered ≡ table_step_moment past t (table_of c)) × (met_by answered ≡ delay_answer past (table_step_moment past t (table_of c)) c)) →
        SendsFor (Ok (heard.DelayReq header)) (Delay answered)
    delay_sends header answered (responds, rest) (moment, met) =
        all_same ports (λ i. by i (table_of (client_of from header)) (responses (met_by answered) (response_of old.config (moment_of_answer answered) (client_of from header) header))) _ 0
        (sent_by answered) (failed_by answered) 0 (five_ports old) (five_ports new)
        (λ i. ap₂ (λ a x. by i (table_of (client_of from header)) (responses a (response_of old.config x (client_of from header) header))) (sym met) (sym moment))
        (table_handled ports (table_of (client_of from header)) old new _ (sent_by answered) (failed_by answered)
        (table_below (header.source.clock % 256 + header.source.port)) rest
        (hands_handled ports _ _ _ (sent_by answered) (failed_by answered) responds))

    asked_sends : (header : Header) (items : List Item) (outcomes : List Outcome) (reply : Reply) →
        ((reply ≡ replies.Nothing) ↔ (items ≡ [])) →
        Replies ports reply old.reply new.reply
        (reply_to old.config from header (answers_seen outcomes)) →
        (new.s0.port ≡ old.s0.port) × (new.s1.port ≡ old.s1.port) × (new.s2.port ≡ old.s2.port) × (new.s3.port ≡ old.s3.port) →
        decisions_seen outcomes ≡ decisions_of (opened_with opening old.config) past t (client_of from header) items →
        SendsFor (Ok (heard.Asks header items)) (Asked outcomes reply)
    asked_sends header [] outcomes reply answers h same comes =
        all_same ports (λ i. by i 4 []) _ 0 (reply_sent reply) (reply_failed reply) 0 (five_ports old) (five_ports new) (λ i. none i)
        (reply_handled ports old new [] (reply_sent reply) (reply_failed reply) same
        (reply_of reply old.reply new.reply _ [] h (λ e. refl) (λ some. absurd (some (answers.1 refl)))))
      where
        none : (i : ℕ) → [] ≡ by i 4 []
        none i = either_same (i == 4) []
    asked_sends header (item ∷ items) outcomes reply answers h same comes =
        all_same ports (λ i. by i 4 (reply_to old.config from header (answers_seen outcomes) ∷ [])) _ 0 (reply_sent reply) (reply_failed reply) 0 (five_ports old) (five_ports new)
        (λ i. ap (λ ds. by i 4 (reply_to old.config from header (map answer_to ds) ∷ [])) (sym comes))
        (reply_handled ports old new _ (reply_sent reply) (reply_failed reply) same
        (reply_of reply old.reply new.reply _ _ h (λ e. absurd (cons_nil (answers.0 e))) (λ some. refl)))
      where
        cons_nil : item ∷ items ≡ [] → ⊥
        cons_nil e = absurd (cc)

    taken_sends : (what : Result Heard GmReason) (taken : Taken) → IsAnswerTo what taken → OnIgnored taken (new ≡ old) →
        OnDelay what taken (λ header answered. let c = client_of from header in let j = table_of c in
        Responds ports old.config c header answered (table_at j old).port (table_at j new).port × (new ≡ with_table j (table_at j new) old)) →
        OnAsked what taken (λ header outcomes reply.
        Replies ports reply old.reply new.reply
        (reply_to old.config from header (answers_seen outcomes))) →
        OnAsked what taken (λ header outcomes reply.
        (new.s0.port ≡ old.s0.port) × (new.s1.port ≡ old.s1.port) × (new.s2.port ≡ old.s2.port) × (new.s3.port ≡ old.s3.port)) →
        ComesTo (opened_with opening old.config) past t from what taken → SendsFor what taken
    taken_sends (Err reason) (Ignored r) answer ignored delay reply same comes = all_same_port old new _ (λ i. refl) ignored
    taken_sends (Ok (heard.DelayReq header)) (Delay answered) answer ignored delay reply same comes = delay_sends header answered delay comes
    taken_sends (Ok (heard.Asks header items)) (Asked outcomes r) answer ignored delay reply same comes =
        asked_sends header items outcomes r answer.1 reply same comes
    taken_sends (Err reason) (Delay answered) answer ignored delay reply same comes = absurd answer
    taken_sends (Err reason) (Asked outcomes r) answer ignored delay reply same comes = absurd answer
    taken_sends (Ok (heard.DelayReq header)) (Ignored r) answer ignored delay reply same comes = absurd answer
    taken_sends (Ok (heard.DelayReq header)) (Asked outcomes r) answer ignored delay reply same comes = absurd answer
    taken_sends (Ok (heard.Asks header items)) (Ignored r) answer ignored delay reply same comes = absurd answer
    taken_sends (Ok (heard.Asks header items)) (Delay answered) answer ignored delay reply same comes = absurd answer

  pub take_does : (t from : ℕ) (octets : List ℕ) (taken : Taken) (sent failed : ℕ) (old new : KeptGm P) →
      sent ≡ sent_for taken → failed ≡ failed_for taken →
      IsAnswerTo (heard_in old.config octets) taken → OnIgnored taken (new ≡ old) →
      OnDelay (heard_in old.config octets) taken (λ header answered. let c = client_of from header in let j = table_of c in
      Responds ports old.config c header answered (table_at j old).port (table_at j new).port × (new ≡ with_table j (table_at j new) old)) →
      OnAsked (heard_in old.config octets) taken (λ header outcomes reply.
      Replies ports reply old.reply new.reply
      (reply_to old.config from header (answers_seen outcomes))) →
      OnAsked (heard_in old.config octets) taken (λ header outcomes reply.
      (new.s0.port ≡ old.s0.port) × (new.s1.port ≡ old.s1.port) × (new.s2.port ≡ old.s2.port) × (new.s3.port ≡ old.s3.port)) →
      ports.waiting new.reply ≡ ports.waiting old.reply → new.config ≡ old.config →
      ((opening : ℕ) (history : List Record) → StandsFor opening old history →
      ComesTo (opened_with opening old.config) history t from (heard_in old.config octets) taken) →
      ((opening : ℕ) (history : List Record) → StandsFor opening old history →
      StandsFor opening new (history_after (opened_with opening old.config) history (events_of_datagram old.config t from octets))) →
      Does ports old new (Take t from octets) sent failed
  take_does t from octets taken sent failed old new many lost answer ignored delay reply same waiting config comes stands = record {
    config = config;
    waiting = waiting;
    does = λ opening past stood. (
      stands opening past stood,
      rw (many, lost) (taken_sends old new t from opening past (heard_in old.config octets) taken answer ignored delay reply same (comes opening past stood)),
    );
  }
