-- Sixteen marks that move up show the clear places of the positions.
use Rattle.std.proofs.Common.{leb, ◌≡◌, ℕ, zero, suc, ◌+◌, ◌-◌, ◌%◌, ◌<◌, ◌≤◌, Bool, true, false, cond, not, ◌&&◌, ◌||◌, List, [], ◌∷◌, ◌++◌, map, get_or, set, length, count_by, Some, refl, ap, sym, ◌∙◌, arith, ltb, eqb, inl, inr}
use Rattle.std.proofs.lemmas.Bool.{cases_lt, le-leb, lt-leb, eq-eqb, ne_eqb}
use Rattle.std.proofs.lemmas.List.{FromFn.{get_or-map-range_with_len}, Sums.{length-filter}}
use Rattle.std.specs.List.{range_with_len, fold, AllByRecursion}
use Rattle.ptu_record.specs.{Lists.{maximum, places}, declared.rule.Rule.TheVariants.{Gap}}
use Rattle.ptu_record.specs.Record.{Record}
use Rattle.ptu_record.specs.Judges.{assessment, flag, numbers, distance, first_position, next_positions, positions, is_clear, clear_places}
use Rattle.ptu_record.specs.Marks.{Marks, fresh_marks, marks_up, marks_at, marks_after, clear_count, marks_of}
use Rattle.ptu_record.proofs.Positions.{first_clear, clear_again_of, clear_ahead_of, clear_behind_of, clear_afresh_of, top_ahead_of, top_behind_of, top_afresh_of, ahead_arrives, first_number, IsPlaced, placed_is, positions_are, positions-push}

-- two tests that agree from a on give the same marks
map_from : (f g : ℕ → Bool) (a n : ℕ) → ((i : ℕ) → a ≤ i → f i ≡ g i) → map f (range_with_len a n) ≡ map g (range_with_len a n)
map_from f g a zero same = refl
map_from f g a (suc n) same =
    ap (λ b. b ∷ map f (range_with_len (a + 1) n)) (same a (omega arith)) ∙ ap (λ w. g a ∷ w) (map_from f g (a + 1) n (λ i le. same i (omega arith)))

map_below : (f g : ℕ → Bool) (a n : ℕ) → ((i : ℕ) → a ≤ i → i < a + n → f i ≡ g i) → map f (range_with_len a n) ≡ map g (range_with_len a n)
map_below f g a zero same = refl
map_below f g a (suc n) same =
    ap (λ b. b ∷ map f (range_with_len (a + 1) n)) (same a (omega arith) (omega arith))
    ∙ ap (λ w. g a ∷ w) (map_below f g (a + 1) n (λ i le lt. same i (omega arith) (omega arith)))

-- one mark is set
set_map : (f : ℕ → Bool) (a n j : ℕ) (y : Bool) → set (map f (range_with_len a n)) j y ≡ map (λ i. cond (eqb i (a + j)) y (f i)) (range_with_len a n)
set_map f a zero j y = refl
set_map f a (suc n) zero y =
    ap (λ b. cond b y (f a) ∷ map f (range_with_len (a + 1) n)) (sym (eq-eqb a (a + 0) (omega arith)))
    ∙ ap (λ w. cond (eqb a (a + 0)) y (f a) ∷ w)
    (map_from f (λ i. cond (eqb i (a + 0)) y (f i)) (a + 1) n (λ i le. ap (λ b. cond b y (f i)) (sym (ne_eqb i (a + 0) (λ e. absurd (omega arith))))))
set_map f a (suc n) (suc j) y =
    let along : a + 1 + j ≡ a + suc j = omega arith in
    ap (λ b. cond b y (f a) ∷ set (map f (range_with_len (a + 1) n)) j y) (sym (ne_eqb a (a + suc j) (λ e. absurd (omega arith))))
    ∙ ap (λ w. cond (eqb a (a + suc j)) y (f a) ∷ w)
    (set_map f (a + 1) n j y ∙ ap (λ k. map (λ i. cond (eqb i k) y (f i)) (range_with_len (a + 1) n)) along)

-- the marks of a list of positions that is not empty
abbrev shown_set : List ℕ → List Bool
shown_set ps = map (λ i. not (is_clear ps i)) (places 16)

all_set : (number : ℕ) → (marks_of (first_position number ∷ [])).set ≡ fresh_marks.set
all_set number = map_below (λ i. not (is_clear (first_position number ∷ []) i)) (λ i. true) 0 16 (λ i le lt. ap not (first_clear number i))

-- what positions show once one Sync more is placed, by how far its number is ahead
shown_placed : (ps : List ℕ) (number : ℕ) → IsPlaced ps → marks_of (next_positions ps number) ≡ record { top = Some (maximum (next_positions ps number) % 65536); set = shown_set (next_positions ps number) }
shown_placed ps number h = whole (next_positions ps number) (placed_is ps number h)
  where
    whole : (qs : List ℕ) → IsPlaced qs → marks_of qs ≡ record { top = Some (maximum qs % 65536); set = shown_set qs }
    whole [] h = absurd h
    whole (q ∷ qs) h = refl

moved : (ps : List ℕ) (d : ℕ) → marks_up d (shown_set ps) ≡ map (λ i. not (cond (eqb i 0) false (cond (ltb i d) true (is_clear ps (i - d))))) (places 16)
moved ps d =
    map_below (λ i. eqb i 0 || (not (ltb i d) && get_or (shown_set ps) (i - d) true)) (λ i. not (cond (eqb i 0) false (cond (ltb i d) true (is_clear ps (i - d))))) 0 16
    (λ i le lt. ap (λ b. eqb i 0 || (not (ltb i d) && b)) (get_or-map-range_with_len (λ j. not (is_clear ps j)) 0 16 (i - d) (i - d) true (omega arith) (omega arith))
    ∙ flip (eqb i 0) (ltb i d) (is_clear ps (i - d)))
  where
    flip : (a b c : Bool) → (a || (not b && not c)) ≡ not (cond a false (cond b true c))
    flip true b c = refl
    flip false true c = refl
    flip false false c = refl

abbrev marked : ℕ → List Bool → Marks
marked top set = record { top = Some top; set = set }

two : (t u : ℕ) (xs ys : List Bool) → t ≡ u → xs ≡ ys → marked t xs ≡ marked u ys
two t u xs ys e f = ap (λ w. marked w xs) e ∙ ap (marked u) f

-- what the marks become, by how far the number is ahead
at_again : (marks : Marks) (d number : ℕ) → d ≡ 0 → marks_at marks d number ≡ marks
at_again marks d number e = rw (eq-eqb d 0 e) refl

at_ahead : (marks : Marks) (d number : ℕ) → 0 < d → d ≤ 32767 → marks_at marks d number ≡ marked number (marks_up d marks.set)
at_ahead marks d number above le = rw (ne_eqb d 0 (λ e. absurd (omega arith)), le-leb d 32767 le) refl

at_behind : (marks : Marks) (d number : ℕ) → 65521 ≤ d → marks_at marks d number ≡ record { top = marks.top; set = set marks.set (65536 - d) true }
at_behind marks d number le = rw (ne_eqb d 0 (λ e. absurd (omega arith)), lt-leb d 32767 (omega arith), le-leb (65536 - d) 15 (omega arith)) refl

at_afresh : (marks : Marks) (d number : ℕ) → 32767 < d → d < 65521 → marks_at marks d number ≡ marked number fresh_marks.set
at_afresh marks d number above below = rw (ne_eqb d 0 (λ e. absurd (omega arith)), lt-leb d 32767 above, lt-leb (65536 - d) 15 (omega arith)) refl

-- the four ways of a number, for positions that are not empty
step_again : (ps : List ℕ) (number : ℕ) → IsPlaced ps → number < 65536 → distance (maximum ps) number ≡ 0
    → marks_at (marked (maximum ps % 65536) (shown_set ps)) (distance (maximum ps) number) number ≡ marked (maximum (next_positions ps number) % 65536) (shown_set (next_positions ps number))
step_again ps number h lt same =
    at_again (marked (maximum ps % 65536) (shown_set ps)) (distance (maximum ps) number) number same
    ∙ two _ _ _ _ (stays (maximum ps) number lt same ∙ sym (ap (λ n. n % 65536) (top_ahead_of ps number h (omega arith)) ∙ ahead_arrives (maximum ps) number lt))
    (map_from (λ i. not (is_clear ps i)) (λ i. not (is_clear (next_positions ps number) i)) 0 16 (λ i le. ap not (sym (clear_again_of ps number i h same))))
  where
    stays : (top number : ℕ) → number < 65536 → distance top number ≡ 0 → top % 65536 ≡ number
    stays top number lt same = omega arith

step_ahead : (ps : List ℕ) (number : ℕ) → IsPlaced ps → number < 65536 → 0 < distance (maximum ps) number → distance (maximum ps) number ≤ 32767
    → marks_at (marked (maximum ps % 65536) (shown_set ps)) (distance (maximum ps) number) number ≡ marked (maximum (next_positions ps number) % 65536) (shown_set (next_positions ps number))
step_ahead ps number h lt above le =
    at_ahead (marked (maximum ps % 65536) (shown_set ps)) (distance (maximum ps) number) number above le
    ∙ two _ _ _ _ (sym (ap (λ n. n % 65536) (top_ahead_of ps number h le) ∙ ahead_arrives (maximum ps) number lt))
    (moved ps (distance (maximum ps) number)
    ∙ map_from (λ i. not (cond (eqb i 0) false (cond (ltb i (distance (maximum ps) number)) true (is_clear ps (i - distance (maximum ps) number))))) (λ i. not (is_clear (next_positions ps number) i)) 0 16
    (λ i low. ap not (sym (clear_ahead_of ps number i h le))))

step_behind : (ps : List ℕ) (number : ℕ) → IsPlaced ps → number < 65536 → 65521 ≤ distance (maximum ps) number
    → marks_at (marked (maximum ps % 65536) (shown_set ps)) (distance (maximum ps) number) number ≡ marked (maximum (next_positions ps number) % 65536) (shown_set (next_positions ps number))
step_behind ps number h lt le =
    at_behind (marked (maximum ps % 65536) (shown_set ps)) (distance (maximum ps) number) number le
    ∙ two _ _ _ _ (sym (ap (λ n. n % 65536) (top_behind_of ps number h le)))
    (set_map (λ i. not (is_clear ps i)) 0 16 (65536 - distance (maximum ps) number) true
    ∙ map_from (λ i. cond (eqb i (0 + (65536 - distance (maximum ps) number))) true (not (is_clear ps i))) (λ i. not (is_clear (next_positions ps number) i)) 0 16
    (λ i low. flip i ∙ ap not (sym (clear_behind_of ps number i h le))))
  where
    one : (a c : Bool) → cond a true (not c) ≡ not (cond a false c)
    one true c = refl
    one false c = refl

    flip : (i : ℕ) → cond (eqb i (0 + (65536 - distance (maximum ps) number))) true (not (is_clear ps i)) ≡ not (cond (eqb i (65536 - distance (maximum ps) number)) false (is_clear ps i))
    flip i =
        let plain : 0 + (65536 - distance (maximum ps) number) ≡ 65536 - distance (maximum ps) number = omega arith in
        ap (λ b. cond (eqb i b) true (not (is_clear ps i))) plain ∙ one (eqb i (65536 - distance (maximum ps) number)) (is_clear ps i)

step_afresh : (ps : List ℕ) (number : ℕ) → IsPlaced ps → number < 65536 → 32767 < distance (maximum ps) number → distance (maximum ps) number < 65521
    → marks_at (marked (maximum ps % 65536) (shown_set ps)) (distance (maximum ps) number) number ≡ marked (maximum (next_positions ps number) % 65536) (shown_set (next_positions ps number))
step_afresh ps number h lt above below =
    at_afresh (marked (maximum ps % 65536) (shown_set ps)) (distance (maximum ps) number) number above below
    ∙ two _ _ _ _ (sym (ap (λ n. n % 65536) (top_afresh_of ps number h above below) ∙ first_number number lt))
    (map_from (λ i. true) (λ i. not (is_clear (next_positions ps number) i)) 0 16 (λ i low. ap not (sym (clear_afresh_of ps number i h above below))))

step_of : (ps : List ℕ) (number : ℕ) → IsPlaced ps → number < 65536
    → marks_at (marked (maximum ps % 65536) (shown_set ps)) (distance (maximum ps) number) number ≡ marked (maximum (next_positions ps number) % 65536) (shown_set (next_positions ps number))
step_of ps number h lt =
    elim (cases_lt 0 (distance (maximum ps) number)) as (λ _. marks_at (marked (maximum ps % 65536) (shown_set ps)) (distance (maximum ps) number) number ≡ marked (maximum (next_positions ps number) % 65536) (shown_set (next_positions ps number))) [
      | inr at ↦ step_again ps number h lt (omega arith)
      | inl above ↦ elim (cases_lt 32767 (distance (maximum ps) number)) as (λ _. marks_at (marked (maximum ps % 65536) (shown_set ps)) (distance (maximum ps) number) number ≡ marked (maximum (next_positions ps number) % 65536) (shown_set (next_positions ps number))) [
        | inr le ↦ step_ahead ps number h lt above le
        | inl far ↦ elim (cases_lt (distance (maximum ps) number) 65521) as (λ _. marks_at (marked (maximum ps % 65536) (shown_set ps)) (distance (maximum ps) number) number ≡ marked (maximum (next_positions ps number) % 65536) (shown_set (next_positions ps number))) [
          | inl below ↦ step_afresh ps number h lt far below
          | inr behind ↦ step_behind ps number h lt behind
        ]
      ]
    ]

-- what has begun with a first Sync, or has not begun
abbrev IsBegun : List ℕ → Type 0
IsBegun [] = Unit {0}
IsBegun (p ∷ ps) = IsPlaced (p ∷ ps)

begun_placed : (ps : List ℕ) (number : ℕ) → IsBegun ps → IsPlaced (next_positions ps number)
begun_placed [] number h = first number
  where
    first : (number : ℕ) → 65536 ≤ 65536 + number
    first number = omega arith
begun_placed (p ∷ ps) number h = placed_is (p ∷ ps) number h

begun_of : (ps : List ℕ) → IsPlaced ps → IsBegun ps
begun_of [] h = absurd h
begun_of (p ∷ ps) h = h

shown_after : (ps : List ℕ) (number : ℕ) → IsBegun ps → number < 65536 → marks_after (marks_of ps) number ≡ marks_of (next_positions ps number)
shown_after [] number h lt = two _ _ _ _ (sym (top_number number lt)) (sym (all_set number))
  where
    top_number : (number : ℕ) → number < 65536 → maximum (first_position number ∷ []) % 65536 ≡ number
    top_number number lt = omega arith
shown_after (p ∷ ps) number h lt = step_of (p ∷ ps) number h lt ∙ sym (shown_placed (p ∷ ps) number h)

shown_fold : (numbers ps : List ℕ) → IsBegun ps → AllByRecursion (λ n. n < 65536) numbers → fold marks_after (marks_of ps) numbers ≡ marks_of (fold next_positions ps numbers)
shown_fold [] ps h all = refl
shown_fold (n ∷ ns) ps h all =
    ap (λ w. fold marks_after w ns) (shown_after ps n h all.0) ∙ shown_fold ns (next_positions ps n) (begun_of (next_positions ps n) (begun_placed ps n h)) all.1

-- marks that were moved by all numbers show the clear places of all positions
pub marks_show : (numbers : List ℕ) → AllByRecursion (λ n. n < 65536) numbers → fold marks_after fresh_marks numbers ≡ marks_of (positions numbers)
marks_show numbers all = shown_fold numbers [] tt all

positions_begun : (numbers : List ℕ) → IsBegun (positions numbers)
positions_begun [] = tt
positions_begun (n ∷ ns) = begun_of (positions (n ∷ ns)) (positions_are (n ∷ ns) (λ e. absurd (cc e)))

pub marks_more : (numbers : List ℕ) (number : ℕ) → number < 65536 → marks_of (positions (numbers ++ number ∷ [])) ≡ marks_after (marks_of (positions numbers)) number
marks_more numbers number lt = ap marks_of (positions-push numbers number) ∙ sym (shown_after (positions numbers) number (positions_begun numbers) lt)

counted_from : (test : ℕ → Bool) (a n k : ℕ) → fold (λ s mark. s + cond (not mark) 1 0) k (map (λ i. not (test i)) (range_with_len a n)) ≡ fold (λ s i. s + cond (test i) 1 0) k (range_with_len a n)
counted_from test a zero k = refl
counted_from test a (suc n) k =
    ap (λ b. fold (λ s mark. s + cond (not mark) 1 0) (k + cond b 1 0) (map (λ i. not (test i)) (range_with_len (a + 1) n))) (twice (test a)) ∙ counted_from test (a + 1) n (k + cond (test a) 1 0)
  where
    twice : (b : Bool) → not (not b) ≡ b
    twice true = refl
    twice false = refl

-- as many marks are clear as there are clear places
pub clear_count_is : (ps : List ℕ) → clear_count (marks_of ps) ≡ length (clear_places ps)
clear_count_is [] = refl
clear_count_is (p ∷ ps) = counted (is_clear (p ∷ ps)) 0 16 ∙ sym (length-filter (is_clear (p ∷ ps)) (places 16))
  where
    counted : (test : ℕ → Bool) (a n : ℕ) → count_by (λ mark. not mark) (map (λ i. not (test i)) (range_with_len a n)) ≡ count_by test (range_with_len a n)
    counted test a n = counted_from test a n 0

pub assessment_by_marks : (n : ℕ) (L : Record) → assessment (Gap n) L ≡ (flag L || leb n (clear_count (marks_of (positions (numbers L)))))
assessment_by_marks n L = ap (λ c. flag L || leb n c) (sym (clear_count_is (positions (numbers L))))
