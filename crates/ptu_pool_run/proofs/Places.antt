-- The pool of an address.
use Rattle.std.proofs.Common.{◌≡◌, ◌⊎◌, ℕ, ◌<◌, Bool, true, false, eqb, List, length, get_or, slice_get, position, Option, Some, None, refl, sym, ap, ◌∙◌, inl, inr, arith}
use Rattle.std.specs.Option.{option_map_or}
use Rattle.std.proofs.lemmas.Bool.{cases_Bool, cases_eq, cases_order, eq-eqb, ne_eqb}
use Rattle.std.proofs.lemmas.List.Quantifiers.{position-Some}
use Rattle.std.proofs.lemmas.Option.{get_or_from_slice_get, slice_get-get_or, slice_get_within}
use Rattle.ptu_pool_run.specs.{declared.pool.Pool.{Pool}, Pool.{AreApart, is_in, is_in_at}}
use Rattle.ptu_pool_run.proofs.Apart.{none_passes}

-- the address is in the pool that stands at this place
pub record IsInThere (pools : List Pool) (i ip : ℕ) : Type 0 where
  pub pool : Pool
  pub at : slice_get pools i ≡ Some pool
  pub inside : is_in ip pool ≡ true

pub there : (pools : List Pool) (i ip : ℕ) → is_in_at pools i ip ≡ true → IsInThere pools i ip
there pools i ip is = by (slice_get pools i) refl is
  where
    by : (o : Option Pool) → slice_get pools i ≡ o → option_map_or (is_in ip) o false ≡ true → IsInThere pools i ip
    by None e h = absurd cc
    by (Some pool) e h = record { pool = pool; at = e; inside = h }

pub one_place : (pools : List Pool) (i j ip : ℕ) → AreApart pools → is_in_at pools i ip ≡ true → is_in_at pools j ip ≡ true → i ≡ j
one_place pools i j ip apart in_i in_j = by (cases_order i j)
  where
    a : IsInThere pools i ip
    a = there pools i ip in_i

    b : IsInThere pools j ip
    b = there pools j ip in_j

    by : (i ≡ j) ⊎ ((i < j) ⊎ (j < i)) → i ≡ j
    by (inl same) = same
    by (inr (inl lt)) = absurd (apart i j (record { order = lt; earlier = a.pool; later = b.pool; at_first = a.at; at_second = b.at; shared = (ip, a.inside, b.inside) }))
    by (inr (inr gt)) = absurd (apart j i (record { order = gt; earlier = b.pool; later = a.pool; at_first = b.at; at_second = a.at; shared = (ip, b.inside, a.inside) }))

nothing : Pool
nothing = record { net = 0; bits = 0; capacity = 0 }

-- where a search finds a place, the address is in the pool there
pub found_in : (pools : List Pool) (ip place : ℕ) → position (is_in ip) pools ≡ Some place → is_in_at pools place ip ≡ true
found_in pools ip place is =
    let found = position-Some (is_in ip) pools place nothing is in
    ap (λ o. option_map_or (is_in ip) o false) (slice_get-get_or pools place nothing found.0) ∙ found.1

pub found_mine : (pools : List Pool) (ip place : ℕ) → AreApart pools → position (is_in ip) pools ≡ Some place → (i : ℕ) → is_in_at pools i ip ≡ eqb i place
found_mine pools ip place apart is i = by (cases_eq i place) (cases_Bool (is_in_at pools i ip))
  where
    by : (i ≡ place) ⊎ (i ≡ place → ⊥) → (is_in_at pools i ip ≡ true) ⊎ (is_in_at pools i ip ≡ false) → is_in_at pools i ip ≡ eqb i place
    by (inl same) h = ap (λ k. is_in_at pools k ip) same ∙ (found_in pools ip place is ∙ sym (eq-eqb i place same))
    by (inr other) (inl in_i) = absurd (other (one_place pools i place ip apart in_i (found_in pools ip place is)))
    by (inr other) (inr not_in) = not_in ∙ sym (ne_eqb i place other)

-- where it finds none, the address is in no pool
pub none_in : (pools : List Pool) (ip : ℕ) → position (is_in ip) pools ≡ None → (i : ℕ) → is_in_at pools i ip ≡ false
none_in pools ip none i = by (cases_Bool (is_in_at pools i ip))
  where
    refuted : IsInThere pools i ip → is_in_at pools i ip ≡ false
    refuted a =
        let within : i < length pools = slice_get_within pools i a.pool a.at in
        let at : get_or pools i a.pool ≡ a.pool = get_or_from_slice_get pools i a.pool a.pool a.at in
        ap (λ o. option_map_or (is_in ip) o false) a.at ∙ (sym (ap (is_in ip) at) ∙ none_passes (is_in ip) pools none i a.pool within)

    by : (is_in_at pools i ip ≡ true) ⊎ (is_in_at pools i ip ≡ false) → is_in_at pools i ip ≡ false
    by (inl in_i) = refuted (there pools i ip in_i)
    by (inr not_in) = not_in
