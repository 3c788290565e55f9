-- The choice of a master: where there is a candidate there is a best one, and only one.
use Rattle.std.proofs.Common.{◌≡◌, ℕ, zero, suc, ◌+◌, ◌<◌, ◌≤◌, Bool, true, false, not, ◌&&◌, ◌||◌, List, length, Option, Some, None, refl, ap, sym, ◌∙◌, arith, ltb, eqb, inl, inr}
use Rattle.std.proofs.lemmas.Bool.{false≢true, and_parts, and_from, not-true, cases_lt, false_from_ne_true}
use Rattle.std.proofs.lemmas.Bool.Decides.{nat_tests}
use Rattle.std.specs.{Prelude.{slice_index, IsTrue}, List.{list_all, find, range_with_len}}
use Rattle.ptu_record.specs.{Lists.{places}, Quality.{is_usable, level_of}, Record.{Record}}
use Rattle.ptu_record.specs.SignalFails.{Timeouts}
use Rattle.ptu_record.specs.Selection.{level, is_better, is_candidate, IsBest, IsSelected, is_best, selected_master}

-- ---- better is a strict order in which any two places compare

-- by level, then by priority, then by place
abbrev pub before : ℕ → ℕ → ℕ → ℕ → ℕ → ℕ → Bool
before l p m k q n = ltb l k || (eqb l k && (ltb p q || (eqb p q && ltb m n)))

pub before-self : (l p m : ℕ) → before l p m l p m ≡ false
before-self l p m = grind (arith, nat_tests)

before-total : (l p m k q n : ℕ) → before l p m k q n ≡ false → before k q n l p m ≡ false → m ≡ n
before-total l p m k q n f g = grind (arith, nat_tests)

before-trans : (l p m k q n j r o : ℕ) → before l p m k q n ≡ true → before k q n j r o ≡ true → before l p m j r o ≡ true
before-trans l p m k q n j r o f g = grind (arith, nat_tests)

pub is_better-self : (priorities : List ℕ) (L : Record) (m : ℕ) → is_better priorities L m m ≡ false
is_better-self priorities L m = before-self (level L m) (slice_index priorities m) m

pub is_better-total : (priorities : List ℕ) (L : Record) (m n : ℕ) → is_better priorities L m n ≡ false → is_better priorities L n m ≡ false → m ≡ n
is_better-total priorities L m n = before-total (level L m) (slice_index priorities m) m (level L n) (slice_index priorities n) n

pub is_better-trans : (priorities : List ℕ) (L : Record) (m n o : ℕ) → is_better priorities L m n ≡ true → is_better priorities L n o ≡ true → is_better priorities L m o ≡ true
is_better-trans priorities L m n o =
    before-trans (level L m) (slice_index priorities m) m (level L n) (slice_index priorities n) n (level L o) (slice_index priorities o) o

-- ---- tests over all places

all_below : (p : ℕ → Bool) (a n : ℕ) → list_all p (range_with_len a n) ≡ true → (k : ℕ) → a ≤ k → k < a + n → p k ≡ true
all_below p a zero h k le lt = absurd (omega arith)
all_below p a (suc n) h k le lt =
    let parts = and_parts (p a) (list_all p (range_with_len (a + 1) n)) h in
    elim (cases_lt a k) as (λ _. p k ≡ true) [
      | inl above ↦ all_below p (a + 1) n parts.1 k (omega arith) (omega arith)
      | inr at ↦ (let same : a ≡ k = omega arith in rw (← same) parts.0)
    ]

all_from : (p : ℕ → Bool) (a n : ℕ) → ((k : ℕ) → a ≤ k → k < a + n → p k ≡ true) → list_all p (range_with_len a n) ≡ true
all_from p a zero h = refl
all_from p a (suc n) h = and_from _ _ (h a (omega arith) (omega arith)) (all_from p (a + 1) n (λ k le lt. h k (omega arith) (omega arith)))

-- the place found passes, and none passes where none is found
pub data Found (p : ℕ → Bool) (a n : ℕ) (o : Option ℕ) : Type 0 where
  there : (k : ℕ) → o ≡ Some k → a ≤ k → k < a + n → p k ≡ true → Found p a n o
  nowhere : o ≡ None → ((k : ℕ) → a ≤ k → k < a + n → p k ≡ false) → Found p a n o

found : (p : ℕ → Bool) (a n : ℕ) → Found p a n (find p (range_with_len a n))
found p a zero = nowhere refl (λ k le lt. absurd (omega arith))
found p a (suc n) = here (p a) refl (found p (a + 1) n)
  where
    above : p a ≡ false → ((k : ℕ) → a + 1 ≤ k → k < a + 1 + n → p k ≡ false) → (k : ℕ) → a ≤ k → k < a + suc n → p k ≡ false
    above is h k le lt =
        elim (cases_lt a k) as (λ _. p k ≡ false) [
          | inl more ↦ h k (omega arith) (omega arith)
          | inr at ↦ (let same : a ≡ k = omega arith in rw (← same) is)
        ]

    rest : p a ≡ false → Found p (a + 1) n (find p (range_with_len (a + 1) n)) → Found p a (suc n) (find p (range_with_len (a + 1) n))
    rest is (there k e le lt passes) = there k e (omega arith) (omega arith) passes
    rest is (nowhere e none) = nowhere e (above is none)

    here : (b : Bool) → p a ≡ b → Found p (a + 1) n (find p (range_with_len (a + 1) n)) → Found p a (suc n) (find p (range_with_len a (suc n)))
    here true is f = there a (rw is) (omega arith) (omega arith) is
    here false is f = rw is (rest is f)

-- ---- the best of the first places

-- among the first n places none is a candidate, or one is and no candidate is better
pub data Best (candidate : ℕ → Bool) (better : ℕ → ℕ → Bool) (n : ℕ) : Type 0 where
  none_yet : ((k : ℕ) → k < n → candidate k ≡ false) → Best candidate better n
  best_yet : (m : ℕ) → m < n → candidate m ≡ true → ((k : ℕ) → k < n → candidate k ≡ true → better k m ≡ false) → Best candidate better n

-- a test of each of the first places and of the next one is one of each
below_next : (P : ℕ → Type 0) (n : ℕ) → ((k : ℕ) → k < n → P k) → P n → (k : ℕ) → k < suc n → P k
below_next P n below at k lt =
    elim (cases_lt k n) as (λ _. P k) [ inl less ↦ below k less | inr ge ↦ (let same : n ≡ k = omega arith in rw (← same) at) ]

best_next : (candidate : ℕ → Bool) (better : ℕ → ℕ → Bool) → ((m : ℕ) → better m m ≡ false)
    → ((m n o : ℕ) → better m n ≡ true → better n o ≡ true → better m o ≡ true)
    → (n : ℕ) → Best candidate better n → Best candidate better (suc n)
best_next candidate better self trans n so_far = here (candidate n) refl so_far
  where
    -- the next place beats the best so far, or does not
    beats : (m : ℕ) → m < n → candidate m ≡ true → ((k : ℕ) → k < n → candidate k ≡ true → better k m ≡ false) → candidate n ≡ true → (b : Bool) → better n m ≡ b → Best candidate better (suc n)
    beats m lt is none at true wins =
        best_yet n (omega arith) at (below_next (λ k. candidate k ≡ true → better k n ≡ false) n
        (λ k below eligible. false_from_ne_true (better k n) (λ over. false≢true (sym (none k below eligible) ∙ trans k n m over wins)))
        (λ eligible. self n))
    beats m lt is none at false loses =
        best_yet m (omega arith) is (below_next (λ k. candidate k ≡ true → better k m ≡ false) n none (λ eligible. loses))

    here : (b : Bool) → candidate n ≡ b → Best candidate better n → Best candidate better (suc n)
    here false at (none_yet none) = none_yet (below_next (λ k. candidate k ≡ false) n none at)
    here false at (best_yet m lt is none) =
        best_yet m (omega arith) is (below_next (λ k. candidate k ≡ true → better k m ≡ false) n none (λ eligible. absurd (false≢true (sym at ∙ eligible))))
    here true at (none_yet none) =
        best_yet n (omega arith) at (below_next (λ k. candidate k ≡ true → better k n ≡ false) n (λ k below eligible. absurd (false≢true (sym (none k below) ∙ eligible))) (λ eligible. self n))
    here true at (best_yet m lt is none) = beats m lt is none at (better n m) refl

best_of : (candidate : ℕ → Bool) (better : ℕ → ℕ → Bool) → ((m : ℕ) → better m m ≡ false)
    → ((m n o : ℕ) → better m n ≡ true → better n o ≡ true → better m o ≡ true)
    → (n : ℕ) → Best candidate better n
best_of candidate better self trans zero = none_yet (λ k lt. absurd (omega arith))
best_of candidate better self trans (suc n) = best_next candidate better self trans n (best_of candidate better self trans n)

-- ---- the relation and its test

pub is_best_from : (timeouts : Timeouts) (priorities : List ℕ) (L : Record) (t m : ℕ) → IsBest timeouts priorities L t m → is_best timeouts priorities L t m ≡ true
is_best_from timeouts priorities L t m best =
    and_from _ _ best.eligible (all_from (λ n. not (is_candidate timeouts L t n && is_better priorities L n m)) 0 (length priorities)
    (λ n low lt. none n (is_candidate timeouts L t n) refl (best.none_better n (omega arith))))
  where
    none : (n : ℕ) (b : Bool) → is_candidate timeouts L t n ≡ b → (IsTrue b → is_better priorities L n m ≡ false) → not (b && is_better priorities L n m) ≡ true
    none n false is h = refl
    none n true is h = rw (h refl) refl

pub IsBest_from : (timeouts : Timeouts) (priorities : List ℕ) (L : Record) (t m : ℕ) → m < length priorities → is_best timeouts priorities L t m ≡ true → IsBest timeouts priorities L t m
IsBest_from timeouts priorities L t m lt h =
    let parts = and_parts (is_candidate timeouts L t m) (list_all (λ n. not (is_candidate timeouts L t n && is_better priorities L n m)) (places (length priorities))) h in
    record {
      within = lt;
      eligible = parts.0;
      none_better = λ n below eligible. none n eligible (all_below (λ n. not (is_candidate timeouts L t n && is_better priorities L n m)) 0 (length priorities) parts.1 n (omega arith) (omega arith));
    }
  where
    none : (n : ℕ) → is_candidate timeouts L t n ≡ true → not (is_candidate timeouts L t n && is_better priorities L n m) ≡ true → is_better priorities L n m ≡ false
    none n eligible passes = not-true (is_better priorities L n m) (rw eligible at passes)

-- at most one master is the best
pub one_best : (timeouts : Timeouts) (priorities : List ℕ) (L : Record) (t m n : ℕ) → IsBest timeouts priorities L t m → IsBest timeouts priorities L t n → m ≡ n
one_best timeouts priorities L t m n a b =
    is_better-total priorities L m n (b.none_better m a.within a.eligible) (a.none_better n b.within b.eligible)

pub one_choice : (timeouts : Timeouts) (priorities : List ℕ) (L : Record) (t : ℕ) (a b : Option ℕ)
    → IsSelected timeouts priorities L t a → IsSelected timeouts priorities L t b → a ≡ b
one_choice timeouts priorities L t None None f g = refl
one_choice timeouts priorities L t None (Some n) f g = absurd (false≢true (sym (f n g.within) ∙ g.eligible))
one_choice timeouts priorities L t (Some m) None f g = absurd (false≢true (sym (g m f.within) ∙ f.eligible))
one_choice timeouts priorities L t (Some m) (Some n) f g = ap Some (one_best timeouts priorities L t m n f g)

-- what is computed is the choice
pub selected_is : (timeouts : Timeouts) (priorities : List ℕ) (L : Record) (t : ℕ) → IsSelected timeouts priorities L t (selected_master timeouts priorities L t)
selected_is timeouts priorities L t =
    pick (selected_master timeouts priorities L t) (found (is_best timeouts priorities L t) 0 (length priorities))
    (best_of (is_candidate timeouts L t) (is_better priorities L) (is_better-self priorities L) (is_better-trans priorities L) (length priorities))
  where
    pick : (o : Option ℕ) → Found (is_best timeouts priorities L t) 0 (length priorities) o
        → Best (is_candidate timeouts L t) (is_better priorities L) (length priorities) → IsSelected timeouts priorities L t o
    pick o (there k e le lt passes) best = rw e (IsBest_from timeouts priorities L t k (omega arith) passes)
    pick o (nowhere e none) (none_yet all) = rw e all
    pick o (nowhere e none) (best_yet m lt is over) =
        absurd (false≢true (sym (none m (omega arith) (omega arith)) ∙ is_best_from timeouts priorities L t m (record { within = lt; eligible = is; none_better = over })))

-- a choice of one
pub chosen_best : (timeouts : Timeouts) (priorities : List ℕ) (L : Record) (t m : ℕ) → selected_master timeouts priorities L t ≡ Some m → IsBest timeouts priorities L t m
chosen_best timeouts priorities L t m e = rw e at (selected_is timeouts priorities L t)

pub chosen_none : (timeouts : Timeouts) (priorities : List ℕ) (L : Record) (t : ℕ) → selected_master timeouts priorities L t ≡ None
    → (m : ℕ) → m < length priorities → is_candidate timeouts L t m ≡ false
chosen_none timeouts priorities L t e = rw e at (selected_is timeouts priorities L t)

pub none_chosen : (timeouts : Timeouts) (priorities : List ℕ) (L : Record) (t : ℕ) → ((m : ℕ) → m < length priorities → is_candidate timeouts L t m ≡ false)
    → selected_master timeouts priorities L t ≡ None
none_chosen timeouts priorities L t h = one_choice timeouts priorities L t (selected_master timeouts priorities L t) None (selected_is timeouts priorities L t) h

-- the same candidates of the same levels are chosen from alike
better_alike : (priorities : List ℕ) (L M : Record) (m n : ℕ) → level L m ≡ level M m → level L n ≡ level M n → is_better priorities L m n ≡ is_better priorities M m n
better_alike priorities L M m n e f =
    ap (λ a. before a (slice_index priorities m) m (level L n) (slice_index priorities n) n) e ∙ ap (λ b. before (level M m) (slice_index priorities m) m b (slice_index priorities n) n) f

carried : (timeouts : Timeouts) (priorities : List ℕ) (L M : Record) (t u : ℕ) → ((m : ℕ) → m < length priorities → is_candidate timeouts L t m ≡ is_candidate timeouts M u m)
    → ((m : ℕ) → m < length priorities → level L m ≡ level M m) → (o : Option ℕ) → IsSelected timeouts priorities L t o → IsSelected timeouts priorities M u o
carried timeouts priorities L M t u alike levels None none = λ m lt. sym (alike m lt) ∙ none m lt
carried timeouts priorities L M t u alike levels (Some m) best = record {
  within = best.within;
  eligible = sym (alike m best.within) ∙ best.eligible;
  none_better = λ n lt eligible. sym (better_alike priorities L M n m (levels n lt) (levels m best.within)) ∙ best.none_better n lt (alike n lt ∙ eligible);
}

pub same_choice : (timeouts : Timeouts) (priorities : List ℕ) (L M : Record) (t u : ℕ) → ((m : ℕ) → m < length priorities → is_candidate timeouts L t m ≡ is_candidate timeouts M u m)
    → ((m : ℕ) → m < length priorities → level L m ≡ level M m) → selected_master timeouts priorities L t ≡ selected_master timeouts priorities M u
same_choice timeouts priorities L M t u alike levels =
    one_choice timeouts priorities M u (selected_master timeouts priorities L t) (selected_master timeouts priorities M u)
    (carried timeouts priorities L M t u alike levels (selected_master timeouts priorities L t) (selected_is timeouts priorities L t)) (selected_is timeouts priorities M u)

-- ---- which classes may be selected

pub usable_classes : (class : ℕ) → is_usable (level_of class) ≡ (eqb class 84 || eqb class 90 || eqb class 96 || eqb class 104)
usable_classes class = grind (arith, nat_tests)
