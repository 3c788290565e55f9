-- Which pools overlap.
use Rattle.std.proofs.Common.{◌≡◌, ◌≢◌, ◌⊎◌, ℕ, zero, suc, ◌+◌, ◌-◌, ◌*◌, ◌/◌, ◌^◌, ◌<◌, ◌≤◌, min, Bool, true, false, cond, not, ltb, eqb, ◌||◌, List, [], ◌∷◌, length, take, get_or, slice_get, position, Option, Some, None, refl, sym, ap, ap₂, subst, ◌∙◌, inl, inr, arith, IsTrue, MatchOption}
use Rattle.std.specs.List.{position_from, position_or_len}
use Rattle.std.proofs.lemmas.Bool.{both_ways, cases_Bool, cases_lt, cases_order, eq-eqb, eqb-true, or_cases}
use Rattle.std.proofs.lemmas.Iterator.Adapters.{position_from-zero}
use Rattle.std.proofs.lemmas.{List.{get_or-take, length-take}, List.Quantifiers.{position-Some}}
use Rattle.std.proofs.lemmas.Nat.{shr-shr}
use Rattle.std.proofs.lemmas.Option.{get_or_from_slice_get, slice_get-get_or, slice_get_within}
use Rattle.ptu_pool_run.specs.declared.pool.Pool.{Pool}
use Rattle.ptu_pool_run.specs.Pool.{AreApart, Overlap, ShareAddress, is_in, meets}
use Rattle.ptu_pool_run.specs.Refusal.{IsFirstOverlap}

-- ---- none where no item passes

from_none : {X : Type 0} (p : X → Bool) (i : ℕ) (xs : List X) → position_from p i xs ≡ None → (k : ℕ) (d : X) → k < length xs → p (get_or xs k d) ≡ false
from_none p i [] none k d h = absurd (omega arith)
from_none {X = X} p i (x ∷ xs) none k d h = by (cases_Bool (p x)) k h (from_none p (i + 1) xs)
  where
    by : (p x ≡ true) ⊎ (p x ≡ false) → (k : ℕ) → k < length (x ∷ xs) → (position_from p (i + 1) xs ≡ None → (k : ℕ) (d : X) → k < length xs → p (get_or xs k d) ≡ false)
        → p (get_or (x ∷ xs) k d) ≡ false
    by (inl passes) k h rest = let some : Some i ≡ None = sym (ap (λ b. cond b (Some i) (position_from p (i + 1) xs)) passes) ∙ none in absurd cc
    by (inr fails) zero h rest = fails
    by (inr fails) (suc k) h rest = rest (sym (ap (λ b. cond b (Some i) (position_from p (i + 1) xs)) fails) ∙ none) k d (omega arith)

pub none_passes : {X : Type 0} (p : X → Bool) (xs : List X) → position p xs ≡ None → (k : ℕ) (d : X) → k < length xs → p (get_or xs k d) ≡ false
none_passes p xs none k d h = from_none p 0 xs (sym (position_from-zero p xs) ∙ none) k d h

-- ---- two pools that meet

-- numbers that agree but for some last bits agree but for more of them
agree : (n m j k : ℕ) → k ≤ j → n / 2 ^ k ≡ m / 2 ^ k → n / 2 ^ j ≡ m / 2 ^ j
agree n m j k le same =
    let whole : k + (j - k) ≡ j = omega arith in
    subst (λ e. n / 2 ^ e ≡ m / 2 ^ e) whole (sym (shr-shr n k (j - k)) ∙ (ap (λ q. q / 2 ^ (j - k)) same ∙ shr-shr m k (j - k)))

pub shared_met : (a b : Pool) → ShareAddress a b → meets a b ≡ true
shared_met a b s = by (cases_lt (32 - a.bits) (32 - b.bits))
  where
    ip : ℕ
    ip = s.0

    of_a : ip / 2 ^ (32 - a.bits) ≡ a.net / 2 ^ (32 - a.bits)
    of_a = eqb-true (ip / 2 ^ (32 - a.bits)) (a.net / 2 ^ (32 - a.bits)) s.1

    of_b : ip / 2 ^ (32 - b.bits) ≡ b.net / 2 ^ (32 - b.bits)
    of_b = eqb-true (ip / 2 ^ (32 - b.bits)) (b.net / 2 ^ (32 - b.bits)) s.2

    right : is_in a.net b ≡ true → meets a b ≡ true
    right e = ap (λ c. is_in b.net a || c) e ∙ or_right (is_in b.net a)
      where
        or_right : (c : Bool) → (c || true) ≡ true
        or_right true = refl
        or_right false = refl

    by : ((32 - a.bits) < (32 - b.bits)) ⊎ ((32 - b.bits) ≤ (32 - a.bits)) → meets a b ≡ true
    by (inl lt) = right (eq-eqb (a.net / 2 ^ (32 - b.bits)) (b.net / 2 ^ (32 - b.bits)) (sym (agree ip a.net (32 - b.bits) (32 - a.bits) (omega arith) of_a) ∙ of_b))
    by (inr le) =
        let e : is_in b.net a ≡ true = eq-eqb (b.net / 2 ^ (32 - a.bits)) (a.net / 2 ^ (32 - a.bits)) (sym (agree ip b.net (32 - a.bits) (32 - b.bits) le of_b) ∙ of_a) in
        ap (λ c. c || is_in a.net b) e

pub met_shared : (a b : Pool) → meets a b ≡ true → ShareAddress a b
met_shared a b m = by (or_cases (is_in b.net a) (is_in a.net b) m)
  where
    by : (is_in b.net a ≡ true) ⊎ (is_in a.net b ≡ true) → ShareAddress a b
    by (inl e) = (b.net, e, eq-eqb (b.net / 2 ^ (32 - b.bits)) (b.net / 2 ^ (32 - b.bits)) refl)
    by (inr e) = (a.net, eq-eqb (a.net / 2 ^ (32 - a.bits)) (a.net / 2 ^ (32 - a.bits)) refl, e)

-- ---- the first overlap

-- no two pools overlap whose later place is below this one
abbrev pub NoneBelow : List Pool → ℕ → Type 0
NoneBelow pools n = (i j : ℕ) → j < n → Overlap pools i j → ⊥

-- the pool before that at this place meets it where both overlap
met_at : (pools : List Pool) (second i : ℕ) (d : Pool) → (o : Overlap pools i second) → meets (get_or (take second pools) i d) (get_or pools second d) ≡ true
met_at pools second i d o =
    let at_i : get_or (take second pools) i d ≡ o.earlier = get_or-take second pools i d o.order ∙ get_or_from_slice_get pools i o.earlier d o.at_first in
    let at_second : get_or pools second d ≡ o.later = get_or_from_slice_get pools second o.later d o.at_second in
    ap₂ meets at_i at_second ∙ shared_met o.earlier o.later o.shared

front : (pools : List Pool) (second i : ℕ) (d : Pool) → (o : Overlap pools i second) → i < length (take second pools)
front pools second i d o = let within = slice_get_within pools second o.later o.at_second in let lt = o.order in omega (arith, length-take second pools)

pub first_found : (pools : List Pool) (second first : ℕ) (d : Pool) → second < length pools → position (λ other. meets other (get_or pools second d)) (take second pools) ≡ Some first
    → NoneBelow pools second → IsFirstOverlap pools first second
first_found pools second first d within is below =
    let found = position-Some (λ other. meets other (get_or pools second d)) (take second pools) first d is in
    let lt : first < second = (let f = found.0 in omega (arith, length-take second pools)) in
    let met : meets (get_or pools first d) (get_or pools second d) ≡ true = subst (λ p. meets p (get_or pools second d) ≡ true) (get_or-take second pools first d lt) found.1 in
    record {
      overlap = record {
        order = lt;
        earlier = get_or pools first d;
        later = get_or pools second d;
        at_first = slice_get-get_or pools first d (omega arith);
        at_second = slice_get-get_or pools second d within;
        shared = met_shared (get_or pools first d) (get_or pools second d) met;
      };
      least_second = λ i j o. second_by i j o (cases_lt j second);
      least_first = λ i o. first_by i o (cases_lt i first) found.2;
    }
  where
    second_by : (i j : ℕ) → Overlap pools i j → (j < second) ⊎ (second ≤ j) → second ≤ j
    second_by i j o (inl lt) = absurd (below i j lt o)
    second_by i j o (inr le) = le

    first_by : (i : ℕ) → Overlap pools i second → (i < first) ⊎ (first ≤ i) → ((k : ℕ) → k < first → meets (get_or (take second pools) k d) (get_or pools second d) ≡ false) → first ≤ i
    first_by i o (inl lt) not_before = absurd (both_ways (meets (get_or (take second pools) i d) (get_or pools second d)) (not_before i lt) (met_at pools second i d o))
    first_by i o (inr le) not_before = le

pub none_found : (pools : List Pool) (second : ℕ) (d : Pool) → position (λ other. meets other (get_or pools second d)) (take second pools) ≡ None
    → NoneBelow pools second → NoneBelow pools (second + 1)
none_found pools second d is below i j lt o = by (cases_lt j second)
  where
    at : Overlap pools i second → ⊥
    at o = both_ways (meets (get_or (take second pools) i d) (get_or pools second d))
        (none_passes (λ other. meets other (get_or pools second d)) (take second pools) is i d (front pools second i d o)) (met_at pools second i d o)

    by : (j < second) ⊎ (second ≤ j) → ⊥
    by (inl lt) = below i j lt o
    by (inr le) = let same : j ≡ second = omega arith in at (subst (λ n. Overlap pools i n) same o)

pub all_apart : (pools : List Pool) (n : ℕ) → length pools ≤ n → NoneBelow pools n → AreApart pools
all_apart pools n le below i j o = below i j (let within = slice_get_within pools j o.later o.at_second in omega arith) o
