-- A tick of a slave.
use Rattle.std.proofs.Common.{◌≡◌, ℕ, max, Bool, true, false, cond, List, [], ◌∷◌, ◌++◌, length, Option, refl, ap, sym, subst, ◌∙◌, append_assoc}
use Rattle.std.proofs.lemmas.List.{append-nil}
use Rattle.std.proofs.ByRecursion.{All-append}
use Rattle.std.specs.List.{AllByRecursion, flat_map}
use Rattle.ptu_record.specs.{declared.rule.Rule.{Rule}, Lists.{places}}
use Rattle.ptu_record.specs.{Record.{Entry, Record, Event}, Judges.{AreAssessments}}
use Rattle.ptu_record.specs.Tick.{Sending, is_stop, requests_to, sending_entries}
use Rattle.ptu_record.specs.Step.{Tick, entries_by, judged_entries, or_event, sendings}
use Rattle.ptu_record.proofs.StepParts.{judged_all}
use Rattle.ptu_select.specs.Watched.{is_watched}
use Rattle.ptu_judges.specs.Held.{Held}
use Rattle.ptu_slave.specs.{Kept.{Kept}, Parts.{AllJudged, Ticks}}
use Rattle.ptu_slave.specs.Standing.{Asks, Judge, Selects, StandsFor, StepsBy, setup_of}
use Rattle.ptu_slave.proofs.Quiet.{Unasked, Untold, asks_kept, judge_kept, selects_kept}
use Rattle.ptu_slave.proofs.{Sendings.{sent_all}, Signals.{asks_or_event, none_stop}}
use Rattle.ptu_slave.proofs.Stepping.{Moves, step_of}

-- ---- an event of which nothing else is entered

selects_or_event : (kept : Kept) (L E : Record) (x : ℕ) → Selects kept (L ++ E) → Selects kept (L ++ or_event x E)
selects_or_event kept L [] x h = selects_kept kept L (Event x ∷ []) (refl, tt) (subst (Selects kept) (append-nil L) h)
selects_or_event kept L (e ∷ E) x h = h

judge_or_event : (openings : List (Option Rule)) (judges : List Held) (L E : Record) (x : ℕ) → Judge openings judges (L ++ E) → Judge openings judges (L ++ or_event x E)
judge_or_event openings judges L [] x h =
    judge_kept openings judges L (Event x ∷ []) (record { no_judge = refl; no_rule = refl; no_word = refl; no_sync = refl }, tt) (subst (Judge openings judges) (append-nil L) h)
judge_or_event openings judges L (e ∷ E) x h = h

all_or_event : (P : Entry → Type 0) (E : Record) (x : ℕ) → P (Event x) → AllByRecursion P E → AllByRecursion P (or_event x E)
all_or_event P [] x none all = (none, tt)
all_or_event P (e ∷ E) x none all = all

-- ---- a tick

-- the slave has stopped or not
by_stop : (P : Type 0) (b : Bool) → (b ≡ true → P) → (b ≡ false → P) → P
by_stop P true f g = f refl
by_stop P false f g = g refl

untold_sent : (x : ℕ) (ss : List Sending) → AllByRecursion Untold (flat_map (sending_entries x) ss)
untold_sent x ss = sent_all Untold x (λ m. record { no_judge = refl; no_rule = refl; no_word = refl; no_sync = refl })
    (λ m k. record { no_judge = refl; no_rule = refl; no_word = refl; no_sync = refl }) (λ m. record { no_judge = refl; no_rule = refl; no_word = refl; no_sync = refl }) ss

module _ (openings : List (Option Rule)) (old begun judged new : Kept) (olds news : List Held) (L : Record) (t at : ℕ) (assessments : List Bool) (ss : List Sending)
    (h : StandsFor openings old olds L) (is : at ≡ max t old.moment) (first : begun ≡ record old { moment = at })
    (all : AllJudged (length begun.masters) at olds news begun judged assessments) (ticks : Ticks at judged new ss) where
  count : length begun.masters ≡ length openings
  count = ap (λ (k : Kept). length k.masters) first ∙ sym h.each_opening

  still : judged.stopped ≡ old.stopped
  still = ap (λ (k : Kept). k.stopped) all.rest ∙ ap (λ (k : Kept). k.stopped) first

  asks_before : (told M : Record) → Asks old told M → Asks judged told M
  asks_before told M a = subst (λ k. Asks k told M) (sym all.rest) (record {
    requester = (let r = subst (λ k. Asks k told M) (sym first) (record { requester = a.requester; counters = a.counters }) in r.requester);
    counters = (let r = subst (λ k. Asks k told M) (sym first) (record { requester = a.requester; counters = a.counters }) in r.counters);
  })

  pub tick_states : ss ≡ sendings (setup_of old.config openings) L at Tick
  tick_states = by_stop (ss ≡ sendings (setup_of old.config openings) L at Tick) old.stopped
      (λ stopped. ticks.silent (still ∙ stopped) ∙ sym (ap (λ b. cond b [] (flat_map (requests_to old.config.wants L at) (places (length openings)))) (sym h.stopped ∙ stopped)))
      (λ going.
      ticks.stated L (still ∙ going) (asks_before L L (subst (λ w. Asks old w L) (h.told_all going) h.asks))
      ∙ ap (λ (k : Kept). flat_map (requests_to k.config.wants L at) (places (length k.masters))) (all.rest)
      ∙ ap (λ (k : Kept). flat_map (requests_to k.config.wants L at) (places (length k.masters))) first
      ∙ ap (λ n. flat_map (requests_to old.config.wants L at) (places n)) (sym h.each_opening)
      ∙ sym (ap (λ b. cond b [] (flat_map (requests_to old.config.wants L at) (places (length openings)))) (sym h.stopped ∙ going)))

  abbrev J : Record
  J = judged_entries at (places (length openings)) assessments

  abbrev S : Record
  S = flat_map (sending_entries at) ss

  abbrev E : Record
  E = entries_by (setup_of old.config openings) assessments L at Tick

  whole : E ≡ or_event at (J ++ S)
  whole = ap (or_event at) (append-nil (judged_entries at (places (length openings)) assessments ++ flat_map (sending_entries at) (sendings (setup_of old.config openings) L at Tick))
      ∙ ap (λ w. judged_entries at (places (length openings)) assessments ++ flat_map (sending_entries at) w) (sym tick_states))

  judged_many : AllJudged (length openings) at olds news begun judged assessments
  judged_many = subst (λ n. AllJudged n at olds news begun judged assessments) count all

  unstopped : AllByRecursion (λ e. is_stop e ≡ false) E
  unstopped = subst (AllByRecursion (λ e. is_stop e ≡ false)) (sym whole)
      (all_or_event (λ e. is_stop e ≡ false) (J ++ S) at refl
      (All-append (λ e. is_stop e ≡ false) J S (judged_all (λ e. is_stop e ≡ false) at (λ m b. refl) (places (length openings)) assessments)
      (sent_all (λ e. is_stop e ≡ false) at (λ m. refl) (λ m k. refl) (λ m. refl) ss)))

  asks_all : (told : Record) → (old.stopped ≡ false → told ≡ L) → Asks old told L → Asks new (told ++ E) (L ++ E)
  asks_all told same a = subst (λ w. Asks new (told ++ w) (L ++ w)) (sym whole)
      (asks_or_event new told L (J ++ S) at
      (subst (λ w. Asks new w (L ++ (J ++ S))) (append_assoc told J S) (subst (Asks new ((told ++ J) ++ S)) (append_assoc L J S)
      (ticks.asks (told ++ J) (L ++ J) (λ s. ap (λ w. w ++ J) (same (sym still ∙ s)))
      (asks_kept judged judged told L J refl refl
      (judged_all Unasked at (λ m b. record { no_negotiation = refl; uncounted = record { no_signaling = refl; no_delay_req = refl; no_moment = refl } }) (places (length openings)) assessments)
      (asks_before told L a))))))

  selects_all : Selects new (L ++ E)
  selects_all = subst (λ w. Selects new (L ++ w)) (sym whole)
      (selects_or_event new L (J ++ S) at (subst (Selects new) (append_assoc L J S)
      (selects_kept new (L ++ J) S (sent_all (λ e. is_watched e ≡ false) at (λ m. refl) (λ m k. refl) (λ m. refl) ss)
      (subst (λ k. Selects k (L ++ J)) (sym ticks.rest) (judged_many.selects L (subst (λ k. Selects k L) (sym first) h.selects))))))

  judge_all : Judge openings news (L ++ E)
  judge_all = subst (λ w. Judge openings news (L ++ w)) (sym whole)
      (judge_or_event openings news L (J ++ S) at (subst (Judge openings news) (append_assoc L J S)
      (judge_kept openings news (L ++ J) S (untold_sent at ss) (judged_many.judge openings L h.judge))))

  moves : Moves old new at
  moves = record {
    config = ap (λ (k : Kept). k.config) ticks.rest ∙ ap (λ (k : Kept). k.config) all.rest ∙ ap (λ (k : Kept). k.config) first;
    masters = ap (λ (k : Kept). k.masters) ticks.rest ∙ ap (λ (k : Kept). k.masters) all.rest ∙ ap (λ (k : Kept). k.masters) first;
    moment = ap (λ (k : Kept). k.moment) ticks.rest ∙ ap (λ (k : Kept). k.moment) all.rest ∙ ap (λ (k : Kept). k.moment) first;
  }

  pub ticked : StepsBy assessments openings old new news L t Tick
  ticked = step_of openings old new olds news L t at Tick assessments h is moves
      (ap (λ (k : Kept). k.stopped) ticks.rest ∙ still) all.long (record {
        unstopped = none_stop E unstopped;
        found = subst (λ w. AreAssessments openings w (places (length openings)) assessments) (sym (append-nil L)) (judged_many.found openings L h.judge);
        asks = asks_all;
        selects = selects_all;
        judge = judge_all;
      })
