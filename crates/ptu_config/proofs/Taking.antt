-- What a loop that takes octets of a source keeps.
use Rattle.std.proofs.Common.{◌≡◌, ℕ, ◌+◌, ◌-◌, ◌≤◌, Bool, true, false, List, ◌++◌, length, take, Option, Some, None, refl, ap, sym, ◌∙◌, arith}
use Rattle.std.specs.Prelude.{IfSome, if◌then◌else◌, slice_range}
use Rattle.std.specs.Io.KnownBytes.{IsAtEnd, prepend_known}
use Rattle.std.proofs.lemmas.{List.{length-take, take_all}, Slice.{between_is}}
use Rattle.ptu_outside.specs.Ends.{CountsEnd, ends_after}
use Rattle.ptu_outside.proofs.Told.{prepend_known-nil, prepend_known-append}
use Rattle.ptu_lines.proofs.Ranges.{range-grow}
use Rattle.ptu_config.specs.Reading.{HasTaken, HasTakenSome}

-- a count of reads at the end that was 0, after one more read
counted : (b : Bool) (old new : Option ℕ) → CountsEnd b old new → IfSome old (λ n. n ≡ 0) → IfSome new (λ n. n ≡ (if b then 1 else 0))
counted b old None c h = tt
counted b None (Some m) c h = absurd c
counted b (Some k) (Some m) c h = c ∙ (ap (ends_after b) h ∙ by b)
  where
    by : (b : Bool) → ends_after b 0 ≡ (if b then 1 else 0)
    by true = refl
    by false = refl

pub counted_none : (old new : Option ℕ) → CountsEnd false old new → IfSome old (λ n. n ≡ 0) → IfSome new (λ n. n ≡ 0)
counted_none = counted false

at_most_one : (b : Bool) (told : Option ℕ) → IfSome told (λ n. n ≡ (if b then 1 else 0)) → IfSome told (λ n. n ≤ 1)
at_most_one b None h = tt
at_most_one true (Some n) h = omega arith
at_most_one false (Some n) h = omega arith

pub counted_once : (b : Bool) (old new : Option ℕ) → CountsEnd b old new → IfSome old (λ n. n ≡ 0) → IfSome new (λ n. n ≤ 1)
counted_once b old new c h = at_most_one b new (counted b old new c h)

pub not_counted : (told : Option ℕ) → IfSome told (λ n. n ≡ 0) → IfSome told (λ n. n ≤ 1)
not_counted = at_most_one false

module _ {S : Type 0} (left : S → Option (List ℕ)) (ends : S → Option ℕ) (faults : S → ℕ) where
  -- so many octets were taken, which stand at the front of these, and no end was found
  pub record IsTaking (from to : S) (octets : List ℕ) (count : ℕ) : Type 0 where
    pub size : length octets ≡ 65537
    pub within : count ≤ 65537
    pub taken : left from ≡ prepend_known (take count octets) (left to)
    pub no_end : ends from ≡ Some 0 → IfSome (ends to) (λ n. n ≡ 0)
    pub still : faults to ≡ faults from

  pub IsTaking-start : (source : S) (octets : List ℕ) → length octets ≡ 65537 → IsTaking source source octets 0
  IsTaking-start source octets size = record {
    size = size;
    within = omega arith;
    taken = sym (prepend_known-nil (left source));
    no_end = λ e. rw e refl;
    still = refl;
  }

  -- octets behind those that were taken
  module _ (from to to' : S) (octets octets' : List ℕ) (count n : ℕ) (t : IsTaking from to octets count) (front : take count octets' ≡ take count octets) (same : length octets' ≡ length octets)
      (read : left to ≡ prepend_known (slice_range octets' count (count + n)) (left to')) where
    pub IsTaking-more : count + n ≤ length octets' → CountsEnd false (ends to) (ends to') → faults to' ≡ faults to → IsTaking from to' octets' (count + n)
    IsTaking-more fits none still = record {
      size = same ∙ t.size;
      within = omega (arith, fits, same, t.size);
      taken = t.taken ∙ (ap (prepend_known (take count octets)) read
          ∙ (prepend_known-append (left to') (take count octets) (slice_range octets' count (count + n)) ∙ ap (λ xs. prepend_known xs (left to')) (sym grown)));
      no_end = λ e. counted_none (ends to) (ends to') none (t.no_end e);
      still = still ∙ t.still;
    }
      where
        grown : take (count + n) octets' ≡ take count octets ++ slice_range octets' count (count + n)
        grown = sym (between_is octets' 0 (count + n)) ∙ (range-grow octets octets' 0 count n (omega arith) (omega (arith, t.within, same, t.size)) front
            ∙ ap (λ xs. xs ++ slice_range octets' count (count + n)) (between_is octets 0 count))

    pub IsTaking-end : n ≡ 0 → IsAtEnd (left to') → HasTaken (left from) (left to') (take count octets')
    IsTaking-end none end = record {
      taken = t.taken ∙ (ap (λ xs. prepend_known xs (left to)) (sym front) ∙ ap (prepend_known (take count octets')) (read ∙ nothing));
      few = omega (arith, length-take count octets', t.within);
      whole = λ _. end;
    }
      where
        nothing : prepend_known (slice_range octets' count (count + n)) (left to') ≡ left to'
        nothing = let size : count + n - count ≡ 0 = omega arith in rw size (prepend_known-nil (left to'))

  -- all that may be read
  pub IsTaking-full : (from to : S) (octets : List ℕ) (count : ℕ) → IsTaking from to octets count → length octets ≤ count → HasTaken (left from) (left to) octets
  IsTaking-full from to octets count t full = record {
    taken = t.taken ∙ ap (λ xs. prepend_known xs (left to)) (take_all count octets full);
    few = omega (arith, t.size);
    whole = λ few. absurd (omega (arith, few, t.size));
  }

-- what was taken is at most so much
pub taken_some : (left left' : Option (List ℕ)) (octets : List ℕ) → HasTaken left left' octets → HasTakenSome left left'
taken_some left left' octets t = (octets, t.taken, t.few)
