-- A judge is taken from the end of a list of the stock.
use Rattle.std.proofs.Common.{◌≡◌, ◌∙◌, ℕ, ◌+◌, ◌-◌, ◌++◌, List, [], ◌∷◌, map, length, Option, Some, None, option_to_list, MatchOption, Ok, false, eqb, refl, sym, ap, subst, arith, length-append, ne_eqb}
use Rattle.std.specs.List.{AllByRecursion}
use Rattle.std.proofs.lemmas.List.{length-map}
use Rattle.ptu_record.specs.declared.rule.Rule.TheVariants.{Flag, Gap}
use Rattle.ptu_judges.specs.Held.{Held, IsStock, fresh}
use Rattle.ptu_judges.proofs.Stocks.{all_but_last, empty, one_less}
use Rattle.ptu_lab.specs.Steps.{HasNone, HasTaken}

module _ {A : Type 0} (f : A → Held) where
  not_empty : (xs : List A) (x : A) → eqb (length (map f (xs ++ x ∷ []))) 0 ≡ false
  not_empty xs x = ne_eqb _ 0 (λ none. omega (arith, one_less f xs x))

  pub took_flag : (old new other : List A) (found : Option A) (n m : ℕ) → old ≡ new ++ option_to_list found → n ≡ length old
      → MatchOption found ((n ≡ 0) × (m ≡ 0)) (λ _. m + 1 ≡ n) → IsStock (map f old) (map f other)
      → MatchOption found (HasNone Flag (map f old) (map f other)) (λ judge. HasTaken Flag (map f old) (map f other) (map f new) (map f other) (f judge))
  took_flag old new other None n m is many count stock = rw (empty f old n many count.0) refl
  took_flag old new other (Some judge) n m is many count stock =
      let parts = all_but_last f (λ held. held ≡ fresh Flag) new judge (subst (λ l. AllByRecursion (λ held. held ≡ fresh Flag) (map f l)) is stock.flags_fresh) in
      let less : length (map f (new ++ judge ∷ [])) - 1 ≡ length (map f new) = omega (arith, one_less f new judge) in
      rw is (record {
        is_fresh = parts.1;
        left = rw (not_empty new judge) (ap (λ k. Ok (record { flags = k; gaps = length (map f other) })) less);
        stock = record { flags_fresh = parts.0; gaps_fresh = stock.gaps_fresh };
      })

  pub took_gap : (old new other : List A) (found : Option A) (n m : ℕ) → old ≡ new ++ option_to_list found → n ≡ length old
      → MatchOption found ((n ≡ 0) × (m ≡ 0)) (λ _. m + 1 ≡ n) → IsStock (map f other) (map f old)
      → MatchOption found (HasNone (Gap 4) (map f other) (map f old)) (λ judge. HasTaken (Gap 4) (map f other) (map f old) (map f other) (map f new) (f judge))
  took_gap old new other None n m is many count stock = rw (empty f old n many count.0) refl
  took_gap old new other (Some judge) n m is many count stock =
      let parts = all_but_last f (λ held. held ≡ fresh (Gap 4)) new judge (subst (λ l. AllByRecursion (λ held. held ≡ fresh (Gap 4)) (map f l)) is stock.gaps_fresh) in
      let less : length (map f (new ++ judge ∷ [])) - 1 ≡ length (map f new) = omega (arith, one_less f new judge) in
      rw is (record {
        is_fresh = parts.1;
        left = rw (not_empty new judge) (ap (λ k. Ok (record { flags = length (map f other); gaps = k })) less);
        stock = record { flags_fresh = stock.flags_fresh; gaps_fresh = parts.0 };
      })
