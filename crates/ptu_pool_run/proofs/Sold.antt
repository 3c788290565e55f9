-- Why a pool is not sold behind others.
use Rattle.std.proofs.Common.{◌≡◌, ◌∙◌, ◌⊎◌, inl, inr, ℕ, ◌+◌, ◌<◌, ◌≤◌, Bool, true, false, cond, not, ltb, leb, is_some, List, [], ◌∷◌, ◌++◌, length, take, get_or, slice_get, position, Option, Some, None, refl, sym, ap, ap₂, subst, arith, length-append}
use Rattle.std.proofs.Math.Seq.{take-append_seam}
use Rattle.std.proofs.lemmas.Bool.{both_ways, cases_Bool, cases_lt, le-leb, le-ltb, lt-leb, lt-ltb}
use Rattle.std.proofs.lemmas.List.{get_or_append_left, get_or_push}
use Rattle.std.proofs.lemmas.List.Quantifiers.{position-Some}
use Rattle.std.proofs.lemmas.Option.{get_or_from_slice_get, slice_get-get_or}
use Rattle.std.proofs.lemmas.List.Sums.{sum_by-append}
use Rattle.ptu_pool_run.specs.declared.pools_fault.PoolsFault.{PoolsFault}
use Rattle.ptu_pool_run.specs.declared.pools_fault.PoolsFault.TheVariants as faults
use Rattle.ptu_pool_run.specs.{declared.pool.Pool.{Pool}, Pool.{AreApart, is_network, meets}}
use Rattle.ptu_pool_run.specs.Refusal.{IsRefused, Share, capacities, first_wrong}
use Rattle.ptu_pool_run.proofs.Apart.{NoneBelow, all_apart, first_found, none_found, none_passes}
use Rattle.ptu_pool_run.proofs.Refused.{one_refused}
use Rattle.ptu_pool_run.specs.declared.cause.PoolCause.{PoolCause}
use Rattle.ptu_pool_run.specs.declared.cause.PoolCause.TheVariants as causes
use Rattle.ptu_pool_run.specs.Selling.{selling_refusal}

-- the cause that a fault of all pools is, where those before had none
abbrev pub cause_of_fault : PoolsFault → Option PoolCause
cause_of_fault (faults.Net at) = Some causes.Net
cause_of_fault (faults.Overlap first second) = Some causes.Overlap
cause_of_fault (faults.Over sum) = Some causes.Over
cause_of_fault faults.OutOfMemory = None

none_of : {X : Type 0} (p : X → Bool) (xs : List X) (d : X) → ((k : ℕ) → k < length xs → p (get_or xs k d) ≡ false) → (o : Option ℕ) → position p xs ≡ o → position p xs ≡ None
none_of p xs d all None e = e
none_of p xs d all (Some i) e = let f = position-Some p xs i d e in absurd (both_ways (p (get_or xs i d)) (all i f.0) f.1)

module _ (capacity : ℕ) (before : List Pool) (pool : Pool) (share : Share capacity before) (network : is_network pool ≡ true) (few : length before < 16) where
  abbrev all : List Pool
  all = before ++ pool ∷ []

  many : length all ≡ length before + 1
  many = length-append before (pool ∷ [])

  last : get_or all (length before) pool ≡ pool
  last = get_or_push before pool pool (length before) refl

  -- all of them are networks
  networks : first_wrong all ≡ None
  networks = none_of (λ p. not (is_network p)) all pool (λ k lt. at k lt (cases_lt k (length before))) (first_wrong all) refl
    where
      at : (k : ℕ) → k < length all → (k < length before) ⊎ (length before ≤ k) → not (is_network (get_or all k pool)) ≡ false
      at k lt (inl h) = ap (λ p. not (is_network p)) (get_or_append_left before (pool ∷ []) pool k h) ∙ none_passes (λ p. not (is_network p)) before share.networks k pool h
      at k lt (inr h) =
          let is : length before ≡ k = omega (arith, many, lt, h) in
          ap (λ p. not (is_network p)) (get_or_push before pool pool k is) ∙ ap not network

  -- none of those before overlap
  at_before : (i : ℕ) (p : Pool) → i < length before → slice_get all i ≡ Some p → slice_get before i ≡ Some p
  at_before i p lt is =
      slice_get-get_or before i pool lt ∙ ap Some (sym (get_or_append_left before (pool ∷ []) pool i lt) ∙ get_or_from_slice_get all i p pool is)

  none_before : NoneBelow all (length before)
  none_before i j lt o = share.apart i j (record {
    order = o.order;
    earlier = o.earlier;
    later = o.later;
    at_first = at_before i o.earlier (let order = o.order in omega (arith, order, lt)) o.at_first;
    at_second = at_before j o.later lt o.at_second;
    shared = o.shared;
  })

  -- which of them meets the last
  meeting : position (λ other. meets other (get_or all (length before) pool)) (take (length before) all) ≡ position (λ other. meets other pool) before
  meeting = ap₂ (λ p l. position (λ other. meets other p) l) last (take-append_seam before (pool ∷ []))

  total : capacities all ≡ capacities before + pool.capacity
  total =
      let one : 0 + pool.capacity ≡ pool.capacity = omega arith in
      sum_by-append (λ p. p.capacity) before (pool ∷ []) ∙ ap (λ n. capacities before + n) one

  abbrev refusal : Bool → Bool → Option PoolCause
  refusal met over = cond met (Some causes.Overlap) (cond over (Some causes.Over) None)

  refusal_is : (met over : Bool) → is_some (position (λ other. meets other pool) before) ≡ met → ltb capacity (capacities before + pool.capacity) ≡ over →
      selling_refusal capacity before pool ≡ refusal met over
  refusal_is met over is_met is_over =
      ap₂ (λ is full. cond (not is) (Some causes.Net) (cond full (Some causes.Full) (refusal (is_some (position (λ other. meets other pool) before)) (ltb capacity (capacities before + pool.capacity)))))
      network (lt-leb 16 (length before) few)
      ∙ ap₂ refusal is_met is_over

  -- the one cause of all
  record IsExpected : Type 0 where
    fault : PoolsFault
    refused : IsRefused capacity all fault
    is : selling_refusal capacity before pool ≡ cause_of_fault fault

  expected : IsExpected
  expected = by (position (λ other. meets other pool) before) refl
    where
      where_apart : AreApart all → position (λ other. meets other pool) before ≡ None → (capacity < (capacities before + pool.capacity)) ⊎ ((capacities before + pool.capacity) ≤ capacity) → IsExpected
      where_apart apart none (inl lt) = record {
        fault = faults.Over (capacities all);
        refused = (networks, apart, refl, subst (λ n. capacity < n) (sym total) lt);
        is = refusal_is false true (ap (λ o. is_some o) none) (lt-ltb capacity (capacities before + pool.capacity) lt);
      }
      where_apart apart none (inr le) = record {
        fault = faults.OutOfMemory;
        refused = record { networks = networks; apart = apart; within = subst (λ n. n ≤ capacity) (sym total) le };
        is = refusal_is false false (ap (λ o. is_some o) none) (le-ltb capacity (capacities before + pool.capacity) le);
      }

      by : (o : Option ℕ) → position (λ other. meets other pool) before ≡ o → IsExpected
      by (Some first) e = record {
        fault = faults.Overlap first (length before);
        refused = (networks, first_found all (length before) first pool (omega (arith, many)) (meeting ∙ e) none_before);
        is = refusal_is true (ltb capacity (capacities before + pool.capacity)) (ap (λ o. is_some o) e) refl;
      }
      by None e = where_apart (all_apart all (length before + 1) (omega (arith, many)) (none_found all (length before) pool (meeting ∙ e) none_before)) e
          (cases_lt capacity (capacities before + pool.capacity))

  refused_for : (fault : PoolsFault) → IsRefused capacity all fault → selling_refusal capacity before pool ≡ cause_of_fault fault
  refused_for fault is = let e = expected in e.is ∙ ap cause_of_fault (one_refused capacity all e.fault fault e.refused is)

-- the same of pools that are those before it and it
pub refused_so : (capacity : ℕ) (before all : List Pool) (pool : Pool) → Share capacity before → is_network pool ≡ true → length before < 16 → all ≡ before ++ pool ∷ [] →
    (fault : PoolsFault) → IsRefused capacity all fault → selling_refusal capacity before pool ≡ cause_of_fault fault
refused_so capacity before all pool share network few are fault is = refused_for capacity before pool share network few fault (subst (λ l. IsRefused capacity l fault) are is)

-- where it is sold, all share the capacity
pub sold_share : (capacity : ℕ) (before : List Pool) (pool : Pool) → Share capacity before → selling_refusal capacity before pool ≡ None →
    Share capacity (before ++ pool ∷ [])
sold_share capacity before pool share none = by (cases_Bool (is_network pool)) (cases_lt (length before) 16)
  where
    later : Option PoolCause
    later =
        cond (is_some (position (λ other. meets other pool) before)) (Some causes.Overlap)
        (cond (ltb capacity (capacities before + pool.capacity)) (Some causes.Over) None)

    of_fault : (fault : PoolsFault) → IsRefused capacity (before ++ pool ∷ []) fault → cause_of_fault fault ≡ None → Share capacity (before ++ pool ∷ [])
    of_fault (faults.Net at) r e = absurd cc
    of_fault (faults.Overlap first second) r e = absurd cc
    of_fault (faults.Over sum) r e = absurd cc
    of_fault faults.OutOfMemory r e = r

    by : (is_network pool ≡ true) ⊎ (is_network pool ≡ false) → (length before < 16) ⊎ (16 ≤ length before) → Share capacity (before ++ pool ∷ [])
    by (inl network) (inl few) =
        let e = expected capacity before pool share network few in
        of_fault e.fault e.refused (sym e.is ∙ none)
    by (inr other) few =
        let no : Some causes.Net ≡ None = sym (ap (λ is. cond (not is) (Some causes.Net) (cond (leb 16 (length before)) (Some causes.Full) later)) other) ∙ none in
        absurd cc
    by (inl network) (inr many) =
        let no : Some causes.Full ≡ None =
        sym (ap₂ (λ is full. cond (not is) (Some causes.Net) (cond full (Some causes.Full) later)) network (le-leb 16 (length before) many)) ∙ none in
        absurd cc

-- no pool at all shares any capacity
pub none_share : (capacity : ℕ) → Share capacity []
none_share capacity = record { networks = refl; apart = λ first second o. (let no = o.at_first in absurd cc); within = omega arith }
