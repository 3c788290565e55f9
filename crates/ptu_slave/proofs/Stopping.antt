-- The stop of a slave.
use Rattle.std.proofs.Common.{◌≡◌, ℕ, zero, suc, ◌+◌, ◌<◌, ◌≤◌, max, Bool, true, false, cond, ◌||◌, List, [], ◌∷◌, ◌++◌, map, length, Option, None, refl, ap, ap₂, sym, subst, ◌∙◌, arith, append_assoc}
use Rattle.std.proofs.lemmas.{Bool.{false≢true, or_right}, List.{append-nil}}
use Rattle.std.proofs.lemmas.List.{Elements.{filter_map-append}, Folds.{list_any-append}}
use Rattle.std.proofs.ByRecursion.{All-append}
use Rattle.std.specs.List.{AllByRecursion, cons_option, filter_map, flat_map, list_any, range_with_len}
use Rattle.std.specs.Option.{unwrap_or}
use Rattle.ptu_units.specs.declared.kind.{Kind.{Kind}, Kind.TheVariants.{Announce, Sync, DelayResp}}
use Rattle.ptu_record.specs.{declared.rule.Rule.{Rule}, Lists.{last, maximum, places}}
use Rattle.ptu_record.specs.Record.{Entry, Record, concerns, event_moment, moment_of, record_of, Asked, Probed, Signalled, Stopped}
use Rattle.ptu_record.specs.Grants.{grant_change, is_live, is_live_at, live_kinds}
use Rattle.ptu_record.specs.Tick.{Cancels, Sending, cancels_to, is_stop, one_signaling, sending_entries, signaling_number}
use Rattle.ptu_record.specs.Step.{Stop, entries_by, or_event, sendings, step_by}
use Rattle.ptu_record.proofs.StepParts.{record_of-append}
use Rattle.ptu_select.specs.Watched.{is_watched}
use Rattle.ptu_requester.specs.Requester.{all_cancels}
use Rattle.ptu_requester.proofs.Stops.{stop_lifted}
use Rattle.ptu_judges.specs.Held.{Held}
use Rattle.ptu_slave.specs.{Kept.{CountFor, Kept}, Parts.{AllEnded, cancels_by}}
use Rattle.ptu_slave.specs.Standing.{Asks, Each, SameGrants, Selects, StandsFor, Steps, setup_of}
use Rattle.ptu_slave.proofs.Quiet.{Untold, counts_kept, judge_kept, selects_kept}
use Rattle.ptu_slave.proofs.{Sendings.{sent_all}, Stepping.{moment_after, moment_is}}

abbrev kinds_by : Bool → Bool → Bool → List Kind
kinds_by a s d = cond a (Announce ∷ cond s (Sync ∷ cond d (DelayResp ∷ []) []) (cond d (DelayResp ∷ []) [])) (cond s (Sync ∷ cond d (DelayResp ∷ []) []) (cond d (DelayResp ∷ []) []))

live_same : (A B : Record) (t : ℕ) → ((k : Kind) → is_live k A t ≡ is_live k B t) → live_kinds A t ≡ live_kinds B t
live_same A B t each =
    ap (λ b. kinds_by b (is_live Sync A t) (is_live DelayResp A t)) (each Announce) ∙ ap (λ b. kinds_by (is_live Announce B t) b (is_live DelayResp A t)) (each Sync)
    ∙ ap (λ b. kinds_by (is_live Announce B t) (is_live Sync B t) b) (each DelayResp)

each_same : (f g : ℕ → List Sending) (a n : ℕ) → ((m : ℕ) → m < a + n → f m ≡ g m) → flat_map f (range_with_len a n) ≡ flat_map g (range_with_len a n)
each_same f g a zero same = refl
each_same f g a (suc n) same = ap₂ (λ v w. v ++ w) (same a (omega arith)) (each_same f g (a + 1) n (λ m lt. same m (omega arith)))

-- entries that change no grant
no_changes : (k : Kind) (m : ℕ) (M : Record) → AllByRecursion (λ e. grant_change k e ≡ None) M → filter_map (grant_change k) (record_of m M) ≡ []
no_changes k m [] all = refl
no_changes k m (e ∷ M) all = pick (concerns m e) (no_changes k m M all.1)
  where
    pick : (b : Bool) → filter_map (grant_change k) (record_of m M) ≡ [] → filter_map (grant_change k) (cond b (e ∷ record_of m M) (record_of m M)) ≡ []
    pick true rest = ap (λ o. cons_option o (filter_map (grant_change k) (record_of m M))) all.0 ∙ rest
    pick false rest = rest

live_beside : (k : Kind) (m t : ℕ) (A M B : Record) → AllByRecursion (λ e. grant_change k e ≡ None) M → is_live k (record_of m ((A ++ M) ++ B)) t ≡ is_live k (record_of m (A ++ B)) t
live_beside k m t A M B none = ap (λ cs. is_live_at (unwrap_or (last cs) None) t) (changes ∙ sym (both A B))
  where
    both : (X Y : Record) → filter_map (grant_change k) (record_of m (X ++ Y)) ≡ filter_map (grant_change k) (record_of m X) ++ filter_map (grant_change k) (record_of m Y)
    both X Y = ap (filter_map (grant_change k)) (record_of-append m X Y) ∙ filter_map-append (grant_change k) (record_of m X) (record_of m Y)

    changes : filter_map (grant_change k) (record_of m ((A ++ M) ++ B)) ≡ filter_map (grant_change k) (record_of m A) ++ filter_map (grant_change k) (record_of m B)
    changes =
        both (A ++ M) B ∙ ap (λ w. w ++ filter_map (grant_change k) (record_of m B))
        (both A M ∙ ap (λ w. filter_map (grant_change k) (record_of m A) ++ w) (no_changes k m M none) ∙ append-nil (filter_map (grant_change k) (record_of m A)))

not_empty : (x : ℕ) (S : Record) (e : Entry) → or_event x (S ++ e ∷ []) ≡ S ++ e ∷ []
not_empty x [] e = refl
not_empty x (s ∷ S) e = refl

module _ (openings : List (Option Rule)) (old begun ended new : Kept) (judges : List Held) (L : Record) (t at : ℕ) (ss : List Sending)
    (h : StandsFor openings old judges L) (is : at ≡ max t old.moment) (first : begun ≡ record old { moment = at })
    (all : AllEnded (length begun.masters) at begun ended ss) (final : new ≡ record ended { stopped = true }) where
  n_is : length begun.masters ≡ length old.masters
  n_is = ap (λ (k : Kept). length k.masters) first

  asks_begun : Asks begun h.told L
  asks_begun = subst (λ k. Asks k h.told L) (sym first) (record { requester = h.asks.requester; counters = h.asks.counters })

  told_live : (m : ℕ) → m < length old.masters → live_kinds (record_of m h.told) at ≡ live_kinds (record_of m L) at
  told_live m within = live_same (record_of m h.told) (record_of m L) at (λ k.
      ap (λ w. is_live k (record_of m w) at) (sym (append-nil h.told)) ∙ h.grants.live [] at m k within (later t old.moment at is) ∙ ap (λ w. is_live k (record_of m w) at) (append-nil L))
    where
      later : (t m n : ℕ) → n ≡ max t m → m ≤ n
      later t m n is = omega arith

  pub stop_states : ss ≡ sendings (setup_of old.config openings) L at Stop
  stop_states =
      all.stated h.told L asks_begun
      ∙ ap (λ n. flat_map (cancels_by h.told L at) (places n)) (n_is ∙ sym h.each_opening)
      ∙ each_same (cancels_by h.told L at) (cancels_to L at) 0 (length openings)
      (λ m lt. ap (one_signaling (Cancels m (signaling_number (record_of m L)))) (told_live m (within m (length openings) (length old.masters) h.each_opening lt)))
    where
      within : (m n k : ℕ) → n ≡ k → m < 0 + n → m < k
      within m n k same lt = omega arith

  abbrev S : Record
  S = flat_map (sending_entries at) ss

  abbrev E : Record
  E = entries_by (setup_of old.config openings) [] L at Stop

  whole : E ≡ S ++ Stopped at ∷ []
  whole = not_empty at (flat_map (sending_entries at) (sendings (setup_of old.config openings) L at Stop)) (Stopped at)
      ∙ ap (λ w. flat_map (sending_entries at) w ++ Stopped at ∷ []) (sym stop_states)

  all_of_it : (P : Entry → Type 0) → ((m : ℕ) → P (Signalled at m)) → ((m : ℕ) (k : Kind) → P (Asked at m k)) → ((m : ℕ) → P (Probed at m)) → P (Stopped at) → AllByRecursion P E
  all_of_it P signalled asked probed stopped = subst (AllByRecursion P) (sym whole) (All-append P S (Stopped at ∷ []) (sent_all P at signalled asked probed ss) (stopped, tt))

  asks_ended : Asks ended (h.told ++ all_cancels (length begun.masters) h.told at) (L ++ S)
  asks_ended = all.asks h.told L asks_begun

  asks_all : Asks new (h.told ++ all_cancels (length old.masters) h.told at) (L ++ E)
  asks_all = subst (λ k. Asks k (h.told ++ all_cancels (length old.masters) h.told at) (L ++ E)) (sym final) (record {
    requester = (let a = subst (λ n. Asks ended (h.told ++ all_cancels n h.told at) (L ++ S)) n_is asks_ended in a.requester);
    counters = subst (λ w. Each (λ m. CountFor) ended.counters (L ++ w)) (sym whole)
        (subst (Each (λ m. CountFor) ended.counters) (append_assoc L S (Stopped at ∷ []))
        (counts_kept ended.counters (L ++ S) (Stopped at ∷ []) (record { no_signaling = refl; no_delay_req = refl; no_moment = refl }, tt) asks_ended.counters));
  })

  config : new.config ≡ old.config
  config = ap (λ (k : Kept). k.config) final ∙ ap (λ (k : Kept). k.config) all.rest ∙ ap (λ (k : Kept). k.config) first

  masters : new.masters ≡ old.masters
  masters = ap (λ (k : Kept). k.masters) final ∙ ap (λ (k : Kept). k.masters) all.rest ∙ ap (λ (k : Kept). k.masters) first

  moment : new.moment ≡ at
  moment = ap (λ (k : Kept). k.moment) final ∙ ap (λ (k : Kept). k.moment) all.rest ∙ ap (λ (k : Kept). k.moment) first

  grants_all : SameGrants (length old.masters) at (h.told ++ all_cancels (length old.masters) h.told at) (L ++ E)
  grants_all = record {
    live = λ M u m k within from.
        stop_lifted (length old.masters) h.told M at u m k within from
        ∙ h.grants.live (Stopped at ∷ M) u m k within (later t old.moment at u is from)
        ∙ sym (ap (λ w. is_live k (record_of m ((L ++ w) ++ M)) u) whole
        ∙ ap (λ w. is_live k (record_of m w) u) (regrouped M)
        ∙ live_beside k m u L S (Stopped at ∷ M) (sent_all (λ e. grant_change k e ≡ None) at (λ m. refl) (λ m k. refl) (λ m. refl) ss));
  }
    where
      later : (t m x u : ℕ) → x ≡ max t m → x ≤ u → m ≤ u
      later t m x u is from = omega arith

      regrouped : (M : Record) → (L ++ (S ++ Stopped at ∷ [])) ++ M ≡ (L ++ S) ++ Stopped at ∷ M
      regrouped M = ap (λ w. w ++ M) (sym (append_assoc L S (Stopped at ∷ []))) ∙ append_assoc (L ++ S) (Stopped at ∷ []) M

  stands_at : StandsFor openings new judges (L ++ E)
  stands_at = record {
    told = h.told ++ all_cancels (length old.masters) h.told at;
    asks = asks_all;
    selects = selects_kept new L E (all_of_it (λ e. is_watched e ≡ false) (λ m. refl) (λ m k. refl) (λ m. refl) refl)
        (subst (λ k. Selects k L) (sym (final ∙ ap (λ (k : Kept). record k { stopped = true }) (all.rest ∙ ap (λ (k : Kept). record k { requester = ended.requester; counters = ended.counters }) first))) h.selects);
    judge = judge_kept openings judges L E
        (all_of_it Untold (λ m. record { no_judge = refl; no_rule = refl; no_word = refl; no_sync = refl }) (λ m k. record { no_judge = refl; no_rule = refl; no_word = refl; no_sync = refl })
        (λ m. record { no_judge = refl; no_rule = refl; no_word = refl; no_sync = refl }) (record { no_judge = refl; no_rule = refl; no_word = refl; no_sync = refl })) h.judge;
    moment = moment ∙ subst (λ x. at ≡ maximum (map moment_of (L ++ entries_by (setup_of old.config openings) [] L x Stop))) (sym same)
        (moment_after (setup_of old.config openings) [] L t at Stop same);
    stopped = ap (λ (k : Kept). k.stopped) final ∙ sym (ap (λ w. list_any is_stop (L ++ w)) whole ∙ list_any-append is_stop L (S ++ Stopped at ∷ [])
        ∙ ap (λ b. list_any is_stop L || b) (list_any-append is_stop S (Stopped at ∷ []) ∙ or_right (list_any is_stop S) true refl) ∙ or_right (list_any is_stop L) true refl);
    told_all = λ going. absurd (false≢true (sym going ∙ ap (λ (k : Kept). k.stopped) final));
    grants = subst (λ x. SameGrants (length new.masters) x (h.told ++ all_cancels (length old.masters) h.told at) (L ++ E)) (sym moment)
        (subst (λ n. SameGrants n at (h.told ++ all_cancels (length old.masters) h.told at) (L ++ E)) (ap length (sym masters)) grants_all);
    each_judged = h.each_judged ∙ ap length (sym masters);
    each_opening = h.each_opening ∙ ap length (sym masters);
  }
    where
      same : at ≡ event_moment L t
      same = is ∙ moment_is openings old judges L t h

  pub stopped : Steps openings old new judges L t Stop
  stopped = record {
    step = step_by (setup_of old.config openings) [] L t Stop;
    is_step = record { assessments = []; found = tt; taken = refl };
    stands = subst (λ x. StandsFor openings new judges (L ++ entries_by (setup_of old.config openings) [] L x Stop)) (is ∙ moment_is openings old judges L t h) stands_at;
  }
