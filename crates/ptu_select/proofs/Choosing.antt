-- The best candidate is the selected master.
use Rattle.std.proofs.Common.{◌≡◌, ℕ, zero, suc, ◌+◌, ◌<◌, ◌≤◌, Bool, true, false, cond, ◌&&◌, ◌||◌, List, [], ◌∷◌, map, length, Option, Some, None, refl, ap, sym, subst, ◌∙◌, arith, ltb, eqb, inl, inr, ◌⊎◌}
use Rattle.std.proofs.lemmas.{Bool.{false≢true, and_parts}, Bool.Decides.{nat_tests}}
use Rattle.std.proofs.lemmas.List.{length-map}
use Rattle.std.proofs.lemmas.Option.{get_or_from_slice_get, slice_get-map, slice_get_within}
use Rattle.std.specs.{List.{enumerate_from, fold, slice_get}, Option.{option_map}}
use Rattle.std.specs.Prelude.{slice_index}
use Rattle.ptu_record.specs.{declared.quality.Quality.{Quality}, Quality.{is_usable, rank_of}}
use Rattle.ptu_record.specs.{Record.{Record, record_of}, SignalFails.{Timeouts}}
use Rattle.ptu_record.specs.Selection.{IsBest, IsSelected, is_better, is_candidate, level, selected_master}
use Rattle.ptu_record.proofs.Choice.{before, before-self, one_choice, selected_is}
use Rattle.ptu_select.specs.declared.state.WatchState.{WatchState}
use Rattle.ptu_select.specs.WatchState.{is_eligible_state, state_at, state_of}
use Rattle.ptu_select.proofs.Watching.{state_of-is}
use Rattle.ptu_select.specs.declared.master.WatchedMaster.{WatchedMaster}
use Rattle.ptu_select.specs.declared.candidate.Candidate.{Candidate}
use Rattle.ptu_select.specs.Candidate.{best_of, better_of, candidate_in, is_better_candidate}
use Rattle.ptu_select.specs.{Choice.{Stands}, Selecting.{SelectsBy}}
use Rattle.ptu_select.specs.declared.choice.Choice.{Choice}

-- ---- better is an order of three numbers

-- what is better than one that no less good one is over is not beaten by it either
before-over : (l p m k q n j r o : ℕ) → before l p m k q n ≡ true → before l p m j r o ≡ false → before k q n j r o ≡ false
before-over l p m k q n j r o f g = grind (arith, nat_tests)

before-not : (l p m k q n j r o : ℕ) → before l p m k q n ≡ false → before k q n j r o ≡ false → before l p m j r o ≡ false
before-not l p m k q n j r o f g = grind (arith, nat_tests)

over-self : (c : Candidate) → is_better_candidate c c ≡ false
over-self c = before-self (rank_of (Some c.quality)) c.priority c.place

over-better : (a b c : Candidate) → is_better_candidate a b ≡ true → is_better_candidate a c ≡ false → is_better_candidate b c ≡ false
over-better a b c = before-over (rank_of (Some a.quality)) a.priority a.place (rank_of (Some b.quality)) b.priority b.place (rank_of (Some c.quality)) c.priority c.place

over-not : (a b c : Candidate) → is_better_candidate a b ≡ false → is_better_candidate b c ≡ false → is_better_candidate a c ≡ false
over-not a b c = before-not (rank_of (Some a.quality)) a.priority a.place (rank_of (Some b.quality)) b.priority b.place (rank_of (Some c.quality)) c.priority c.place

-- ---- the best of a list

-- what is chosen from a first candidate and a list is one of them, and none of them is better
pub record Chosen (first : Option Candidate) (cs : List (Option Candidate)) (o : Option Candidate) : Type 0 where
  pub from : (c : Candidate) → o ≡ Some c → (first ≡ Some c) ⊎ ((k : ℕ) × (slice_get cs k ≡ Some (Some c)))
  pub over_first : (c d : Candidate) → o ≡ Some c → first ≡ Some d → is_better_candidate d c ≡ false
  pub over : (c d : Candidate) (k : ℕ) → o ≡ Some c → slice_get cs k ≡ Some (Some d) → is_better_candidate d c ≡ false
  pub no_first : o ≡ None → first ≡ None
  pub none : (d : Candidate) (k : ℕ) → o ≡ None → slice_get cs k ≡ Some (Some d) → ⊥

chosen_first : (first : Option Candidate) → Chosen first [] first
chosen_first first = record {
  from = λ c e. inl e;
  over_first = λ c d e f. (let same : c ≡ d = cc in subst (λ b. is_better_candidate b c ≡ false) same (over-self c));
  over = λ c d k e f. absurd (cc f);
  no_first = λ e. e;
  none = λ d k e f. cc f;
}

chosen_next : (first next : Option Candidate) (cs : List (Option Candidate)) (o : Option Candidate) → Chosen (better_of first next) cs o → Chosen first (next ∷ cs) o
chosen_next None next cs o h = record {
  from = λ c e. elim (h.from c e) as (λ _. (None ≡ Some c) ⊎ ((k : ℕ) × (slice_get (next ∷ cs) k ≡ Some (Some c)))) [ inl is ↦ inr (0, ap Some is) | inr there ↦ inr (suc there.0, there.1) ];
  over_first = λ c d e f. absurd (cc f);
  over = over_of;
  no_first = λ e. refl;
  none = none_of;
}
  where
    over_of : (c d : Candidate) (k : ℕ) → o ≡ Some c → slice_get (next ∷ cs) k ≡ Some (Some d) → is_better_candidate d c ≡ false
    over_of c d zero e f = let is : next ≡ Some d = cc in h.over_first c d e is
    over_of c d (suc k) e f = h.over c d k e f

    none_of : (d : Candidate) (k : ℕ) → o ≡ None → slice_get (next ∷ cs) k ≡ Some (Some d) → ⊥
    none_of d zero e f = let is : next ≡ Some d = cc in let no : next ≡ None = h.no_first e in cc
    none_of d (suc k) e f = h.none d k e f
chosen_next (Some best) None cs o h = record {
  from = λ c e. elim (h.from c e) as (λ _. (Some best ≡ Some c) ⊎ ((k : ℕ) × (slice_get (None ∷ cs) k ≡ Some (Some c)))) [ inl is ↦ inl is | inr there ↦ inr (suc there.0, there.1) ];
  over_first = h.over_first;
  over = over_of;
  no_first = h.no_first;
  none = none_of;
}
  where
    over_of : (c d : Candidate) (k : ℕ) → o ≡ Some c → slice_get (None ∷ cs) k ≡ Some (Some d) → is_better_candidate d c ≡ false
    over_of c d zero e f = absurd (cc f)
    over_of c d (suc k) e f = h.over c d k e f

    none_of : (d : Candidate) (k : ℕ) → o ≡ None → slice_get (None ∷ cs) k ≡ Some (Some d) → ⊥
    none_of d zero e f = cc f
    none_of d (suc k) e f = h.none d k e f
chosen_next (Some best) (Some next) cs o h = pick (is_better_candidate next best) refl h
  where
    over_won : Chosen (Some next) cs o → (c d : Candidate) (k : ℕ) → o ≡ Some c → slice_get (Some next ∷ cs) k ≡ Some (Some d) → is_better_candidate d c ≡ false
    over_won g c d zero e f = let same : next ≡ d = cc in subst (λ b. is_better_candidate b c ≡ false) same (g.over_first c next e refl)
    over_won g c d (suc k) e f = g.over c d k e f

    none_won : Chosen (Some next) cs o → (d : Candidate) (k : ℕ) → o ≡ None → slice_get (Some next ∷ cs) k ≡ Some (Some d) → ⊥
    none_won g d k e f = cc (g.no_first e)

    over_lost : is_better_candidate next best ≡ false → Chosen (Some best) cs o → (c d : Candidate) (k : ℕ) → o ≡ Some c → slice_get (Some next ∷ cs) k ≡ Some (Some d) → is_better_candidate d c ≡ false
    over_lost loses g c d zero e f = let same : next ≡ d = cc in subst (λ b. is_better_candidate b c ≡ false) same (over-not next best c loses (g.over_first c best e refl))
    over_lost loses g c d (suc k) e f = g.over c d k e f

    won : is_better_candidate next best ≡ true → Chosen (Some next) cs o → Chosen (Some best) (Some next ∷ cs) o
    won wins g = record {
      from = λ c e. elim (g.from c e) as (λ _. (Some best ≡ Some c) ⊎ ((k : ℕ) × (slice_get (Some next ∷ cs) k ≡ Some (Some c)))) [ inl is ↦ inr (0, ap Some is) | inr there ↦ inr (suc there.0, there.1) ];
      over_first = λ c d e f. (let same : best ≡ d = cc in subst (λ b. is_better_candidate b c ≡ false) same (over-better next best c wins (g.over_first c next e refl)));
      over = over_won g;
      no_first = λ e. absurd (cc (g.no_first e));
      none = none_won g;
    }

    lost : is_better_candidate next best ≡ false → Chosen (Some best) cs o → Chosen (Some best) (Some next ∷ cs) o
    lost loses g = record {
      from = λ c e. elim (g.from c e) as (λ _. (Some best ≡ Some c) ⊎ ((k : ℕ) × (slice_get (Some next ∷ cs) k ≡ Some (Some c)))) [ inl is ↦ inl is | inr there ↦ inr (suc there.0, there.1) ];
      over_first = g.over_first;
      over = over_lost loses g;
      no_first = g.no_first;
      none = λ d k e f. cc (g.no_first e);
    }

    pick : (b : Bool) → is_better_candidate next best ≡ b → Chosen (Some (cond b next best)) cs o → Chosen (Some best) (Some next ∷ cs) o
    pick true is g = won is g
    pick false is g = lost is g

chosen : (cs : List (Option Candidate)) (first : Option Candidate) → Chosen first cs (fold better_of first cs)
chosen [] first = chosen_first first
chosen (next ∷ cs) first = chosen_next first next cs (fold better_of (better_of first next) cs) (chosen cs (better_of first next))

-- ---- the masters as candidates

abbrev candidate_at : ℕ → ℕ → WatchedMaster → Option Candidate
candidate_at t place master = candidate_in (state_of master.watch t) master.priority place

abbrev candidates : ℕ → ℕ → List WatchedMaster → List (Option Candidate)
candidates t place [] = []
candidates t place (master ∷ masters) = candidate_at t place master ∷ candidates t (place + 1) masters

best_of-candidates : (t place : ℕ) (first : Option Candidate) (masters : List WatchedMaster)
    → fold (λ best p. better_of best (candidate_in (state_of p.1.watch t) p.1.priority p.0)) first (enumerate_from place masters) ≡ fold better_of first (candidates t place masters)
best_of-candidates t place first [] = refl
best_of-candidates t place first (master ∷ masters) = best_of-candidates t (place + 1) (better_of first (candidate_at t place master)) masters

get-candidates : (t place k : ℕ) (masters : List WatchedMaster) → slice_get (candidates t place masters) k ≡ option_map (candidate_at t (place + k)) (slice_get masters k)
get-candidates t place k [] = refl
get-candidates t place zero (master ∷ masters) = ap (λ n. Some (candidate_at t n master)) (omega arith)
get-candidates t place (suc k) (master ∷ masters) =
    get-candidates t (place + 1) k masters ∙ ap (λ n. option_map (candidate_at t n) (slice_get masters k)) (omega arith)

-- ---- candidates and the record

-- the member from which a mapped one comes
mapped : {A B : Type 0} (f : A → B) (o : Option A) (y : B) → option_map f o ≡ Some y → (x : A) × (o ≡ Some x) × (f x ≡ y)
mapped f None y e = absurd (cc e)
mapped f (Some x) y e = (x, refl, some_is (f x) y e)
  where
    some_is : {B : Type 0} (u v : B) → Some u ≡ Some v → u ≡ v
    some_is u v e = cc

-- what is known of a candidate in a state
pub record IsCandidateIn (s : WatchState) (priority place : ℕ) (c : Candidate) : Type 0 where
  pub eligible : is_eligible_state s ≡ true
  pub of_level : s.quality ≡ Some c.quality
  pub of_priority : c.priority ≡ priority
  pub at_place : c.place ≡ place

candidate_known : (s : WatchState) (priority place : ℕ) (c : Candidate) → candidate_in s priority place ≡ Some c → IsCandidateIn s priority place c
candidate_known s priority place c = pick (is_eligible_state s) refl s.quality refl
  where
    pick : (b : Bool) → is_eligible_state s ≡ b → (q : Option Quality) → s.quality ≡ q
        → cond b (option_map (λ level. record { quality = level; priority = priority; place = place }) q) None ≡ Some c → IsCandidateIn s priority place c
    pick false is q of e = absurd (cc e)
    pick true is None of e = absurd (cc e)
    pick true is (Some level) of e =
        let same : record { quality = level; priority = priority; place = place } ≡ c = cc in
        record { eligible = is; of_level = of ∙ ap Some (ap (λ d. d.quality) same); of_priority = sym (ap (λ d. d.priority) same); at_place = sym (ap (λ d. d.place) same) }

candidate_there : (s : WatchState) (priority place : ℕ) → is_eligible_state s ≡ true → (c : Candidate) × (candidate_in s priority place ≡ Some c)
candidate_there s priority place is = pick s.quality refl
  where
    pick : (q : Option Quality) → s.quality ≡ q → (c : Candidate) × (cond (is_eligible_state s) (option_map (λ level. record { quality = level; priority = priority; place = place }) s.quality) None ≡ Some c)
    pick None none = absurd (false≢true (sym (ap is_usable none) ∙ (and_parts _ (is_usable s.quality) is).1))
    pick (Some level) some = (
      record { quality = level; priority = priority; place = place },
      ap (λ b. cond b (option_map (λ level. record { quality = level; priority = priority; place = place }) s.quality) None) is
          ∙ ap (option_map (λ level. record { quality = level; priority = priority; place = place })) some,
    )

-- a master's candidate by the record
candidate_of_record : (masters : List WatchedMaster) (timeouts : Timeouts) (priorities : List ℕ) (L : Record) (t k : ℕ) (master : WatchedMaster)
    → SelectsBy masters timeouts priorities L → slice_get masters k ≡ Some master
    → candidate_at t k master ≡ candidate_in (state_at timeouts (record_of k L) t) (slice_index priorities k) k
candidate_of_record masters timeouts priorities L t k master h there =
    ap (λ s. candidate_in s master.priority k) (state_of-is master.watch timeouts (record_of k L) t (h.watches_are k master there))
    ∙ ap (λ p. candidate_in (state_at timeouts (record_of k L) t) p k)
    (sym (ap (λ ps. slice_index ps k) (sym h.priorities_are)
    ∙ get_or_from_slice_get (map (λ m. m.priority) masters) k master.priority 0 (slice_get-map (λ m. m.priority) masters k ∙ ap (option_map (λ m. m.priority)) there)))

-- the candidates at places of a record's masters
pub record IsPlacedIn (timeouts : Timeouts) (priorities : List ℕ) (L : Record) (t k : ℕ) (c : Candidate) : Type 0 where
  pub within : k < length priorities
  pub known : IsCandidateIn (state_at timeouts (record_of k L) t) (slice_index priorities k) k c

as_many : (masters : List WatchedMaster) (timeouts : Timeouts) (priorities : List ℕ) (L : Record) → SelectsBy masters timeouts priorities L → length masters ≡ length priorities
as_many masters timeouts priorities L h = sym (length-map masters (λ (m : WatchedMaster). m.priority)) ∙ ap length h.priorities_are

placed_in : (masters : List WatchedMaster) (timeouts : Timeouts) (priorities : List ℕ) (L : Record) (t k : ℕ) (c : Candidate)
    → SelectsBy masters timeouts priorities L → slice_get (candidates t 0 masters) k ≡ Some (Some c) → IsPlacedIn timeouts priorities L t k c
placed_in masters timeouts priorities L t k c h there = found (mapped (candidate_at t k) (slice_get masters k) (Some c) (ap (λ n. option_map (candidate_at t n) (slice_get masters k)) (omega arith) ∙ sym (get-candidates t 0 k masters) ∙ there))
  where
    found : (master : WatchedMaster) × (slice_get masters k ≡ Some master) × (candidate_at t k master ≡ Some c) → IsPlacedIn timeouts priorities L t k c
    found (master, at, is) = record {
      within = subst (λ n. k < n) (as_many masters timeouts priorities L h) (slice_get_within masters k master at);
      known = candidate_known (state_at timeouts (record_of k L) t) (slice_index priorities k) k c (sym (candidate_of_record masters timeouts priorities L t k master h at) ∙ is);
    }

within_some : (masters : List WatchedMaster) (k : ℕ) → k < length masters → slice_get masters k ≡ None → ⊥
within_some [] k lt e = omega (arith, lt)
within_some (master ∷ masters) zero lt e = cc e
within_some (master ∷ masters) (suc k) lt e = within_some masters k (omega (arith, lt)) e

-- an eligible master has a candidate
listed : (masters : List WatchedMaster) (timeouts : Timeouts) (priorities : List ℕ) (L : Record) (t k : ℕ)
    → SelectsBy masters timeouts priorities L → k < length priorities → is_candidate timeouts L t k ≡ true
    → (c : Candidate) × (slice_get (candidates t 0 masters) k ≡ Some (Some c))
listed masters timeouts priorities L t k h lt eligible = pick (slice_get masters k) refl
  where
    there : (master : WatchedMaster) → slice_get masters k ≡ Some master → (c : Candidate) × (candidate_in (state_at timeouts (record_of k L) t) (slice_index priorities k) k ≡ Some c)
        → (c : Candidate) × (slice_get (candidates t 0 masters) k ≡ Some (Some c))
    there master at (c, is) = (
      c,
      get-candidates t 0 k masters ∙ ap (λ n. option_map (candidate_at t n) (slice_get masters k)) (omega arith) ∙ ap (option_map (candidate_at t k)) at
          ∙ ap Some (candidate_of_record masters timeouts priorities L t k master h at ∙ is),
    )

    pick : (o : Option WatchedMaster) → slice_get masters k ≡ o → (c : Candidate) × (slice_get (candidates t 0 masters) k ≡ Some (Some c))
    pick None none = absurd (within_some masters k (subst (λ n. k < n) (sym (as_many masters timeouts priorities L h)) lt) none)
    pick (Some master) at = there master at (candidate_there (state_at timeouts (record_of k L) t) (slice_index priorities k) k eligible)

-- which of two is better, by the record
better_in : (timeouts : Timeouts) (priorities : List ℕ) (L : Record) (t j k : ℕ) (a b : Candidate) → IsPlacedIn timeouts priorities L t j a → IsPlacedIn timeouts priorities L t k b
    → is_better_candidate a b ≡ is_better priorities L j k
better_in timeouts priorities L t j k a b f g =
    six (rank_of (Some a.quality)) (level L j) a.priority (slice_index priorities j) a.place j (rank_of (Some b.quality)) (level L k) b.priority (slice_index priorities k) b.place k
    (ap rank_of (sym f.known.of_level)) f.known.of_priority f.known.at_place (ap rank_of (sym g.known.of_level)) g.known.of_priority g.known.at_place
  where
    six : (l l' p p' m m' k k' q q' n n' : ℕ) → l ≡ l' → p ≡ p' → m ≡ m' → k ≡ k' → q ≡ q' → n ≡ n' → before l p m k q n ≡ before l' p' m' k' q' n'
    six l l' p p' m m' k k' q q' n n' e1 e2 e3 e4 e5 e6 = simp (e1, e2, e3, e4, e5, e6)

selects : (masters : List WatchedMaster) (timeouts : Timeouts) (priorities : List ℕ) (L : Record) (t : ℕ) (o : Option Candidate)
    → SelectsBy masters timeouts priorities L → Chosen None (candidates t 0 masters) o → IsSelected timeouts priorities L t (option_map (λ c. c.place) o)
selects masters timeouts priorities L t None h chose = λ k lt. pick k lt (is_candidate timeouts L t k) refl
  where
    there : (k : ℕ) → (c : Candidate) × (slice_get (candidates t 0 masters) k ≡ Some (Some c)) → ⊥
    there k (c, at) = chose.none c k refl at

    pick : (k : ℕ) → k < length priorities → (b : Bool) → is_candidate timeouts L t k ≡ b → is_candidate timeouts L t k ≡ false
    pick k lt true is = absurd (there k (listed masters timeouts priorities L t k h lt is))
    pick k lt false is = is
selects masters timeouts priorities L t (Some c) h chose = from (chose.from c refl)
  where
    best : (k : ℕ) → IsPlacedIn timeouts priorities L t k c → IsBest timeouts priorities L t k
    best k placed = record {
      within = placed.within;
      eligible = placed.known.eligible;
      none_better = λ n lt eligible. beaten n (listed masters timeouts priorities L t n h lt eligible);
    }
      where
        beaten : (n : ℕ) → (d : Candidate) × (slice_get (candidates t 0 masters) n ≡ Some (Some d)) → is_better priorities L n k ≡ false
        beaten n (d, at) = sym (better_in timeouts priorities L t n k d c (placed_in masters timeouts priorities L t n d h at) placed) ∙ chose.over c d n refl at

    from : (None ≡ Some c) ⊎ ((k : ℕ) × (slice_get (candidates t 0 masters) k ≡ Some (Some c))) → IsBest timeouts priorities L t c.place
    from (inl none) = absurd (cc none)
    from (inr (k, at)) =
        let placed : IsPlacedIn timeouts priorities L t k c = placed_in masters timeouts priorities L t k c h at in
        subst (IsBest timeouts priorities L t) (sym placed.known.at_place) (best k placed)

-- the place of the best candidate is that of the selected master
pub best_is_selected : (masters : List WatchedMaster) (timeouts : Timeouts) (priorities : List ℕ) (L : Record) (t : ℕ)
    → SelectsBy masters timeouts priorities L → option_map (λ c. c.place) (best_of t masters) ≡ selected_master timeouts priorities L t
best_is_selected masters timeouts priorities L t h =
    one_choice timeouts priorities L t (option_map (λ c. c.place) (best_of t masters)) (selected_master timeouts priorities L t)
    (selects masters timeouts priorities L t (best_of t masters) h
    (subst (Chosen None (candidates t 0 masters)) (sym (best_of-candidates t 0 None masters)) (chosen (candidates t 0 masters) None)))
    (selected_is timeouts priorities L t)

-- so is the place of a choice, at a moment at which it stands
pub placed_is_selected : (masters : List WatchedMaster) (timeouts : Timeouts) (priorities : List ℕ) (L : Record) (choice : Choice) (t : ℕ)
    → Stands masters choice → choice.from ≤ t → t < choice.until → SelectsBy masters timeouts priorities L
    → choice.place ≡ selected_master timeouts priorities L t
placed_is_selected masters timeouts priorities L choice t stands from until h = sym (stands t from until) ∙ best_is_selected masters timeouts priorities L t h
