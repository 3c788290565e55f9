-- A judge is taken from the end of a list of the stock.
use Rattle.std.proofs.Common.{◌≡◌, ◌∙◌, ℕ, ◌+◌, ◌++◌, List, [], ◌∷◌, map, length, Option, Some, None, option_to_list, MatchOption, refl, sym, ap, subst, arith, length-append}
use Rattle.std.specs.List.{AllByRecursion}
use Rattle.std.proofs.lemmas.List.{length-map}
use Rattle.ptu_record.specs.declared.rule.Rule.TheVariants.{Flag, Gap}
use Rattle.ptu_judges.specs.Held.{HasNone, HasTaken, Held, IsStock, fresh}

module _ {A : Type 0} (f : A → Held) where
  pub all_but_last : (P : Held → Type 0) (xs : List A) (x : A) → AllByRecursion P (map f (xs ++ x ∷ [])) → AllByRecursion P (map f xs) × P (f x)
  all_but_last P [] x h = (tt, h.0)
  all_but_last P (y ∷ ys) x h = let rest = all_but_last P ys x h.1 in ((h.0, rest.0), rest.1)

  pub one_less : (xs : List A) (x : A) → length (map f (xs ++ x ∷ [])) ≡ length (map f xs) + 1
  one_less xs x = length-map (xs ++ x ∷ []) f ∙ (length-append xs (x ∷ []) ∙ ap (λ n. n + 1) (sym (length-map xs f)))

  pub empty : (old : List A) (n : ℕ) → n ≡ length old → n ≡ 0 → length (map f old) ≡ 0
  empty old n many none = length-map old f ∙ (sym many ∙ none)

  pub took_flag : (old new other : List A) (found : Option A) (n m : ℕ) → old ≡ new ++ option_to_list found → n ≡ length old
      → MatchOption found ((n ≡ 0) × (m ≡ 0)) (λ _. m + 1 ≡ n) → IsStock (map f old) (map f other)
      → MatchOption found (HasNone Flag (map f old) (map f other)) (λ judge. HasTaken Flag (map f old) (map f other) (map f new) (map f other) (f judge))
  took_flag old new other None n m is many count stock = empty old n many count.0
  took_flag old new other (Some judge) n m is many count stock =
      let parts = all_but_last (λ held. held ≡ fresh Flag) new judge (subst (λ l. AllByRecursion (λ held. held ≡ fresh Flag) (map f l)) is stock.flags_fresh) in
      record {
        is_fresh = parts.1;
        flags_left = sym (ap (λ l. length (map f l)) is ∙ one_less new judge);
        gaps_left = omega arith;
        stock = record { flags_fresh = parts.0; gaps_fresh = stock.gaps_fresh };
      }

  pub took_gap : (old new other : List A) (found : Option A) (n m : ℕ) → old ≡ new ++ option_to_list found → n ≡ length old
      → MatchOption found ((n ≡ 0) × (m ≡ 0)) (λ _. m + 1 ≡ n) → IsStock (map f other) (map f old)
      → MatchOption found (HasNone (Gap 4) (map f other) (map f old)) (λ judge. HasTaken (Gap 4) (map f other) (map f old) (map f other) (map f new) (f judge))
  took_gap old new other None n m is many count stock = empty old n many count.0
  took_gap old new other (Some judge) n m is many count stock =
      let parts = all_but_last (λ held. held ≡ fresh (Gap 4)) new judge (subst (λ l. AllByRecursion (λ held. held ≡ fresh (Gap 4)) (map f l)) is stock.gaps_fresh) in
      record {
        is_fresh = parts.1;
        flags_left = omega arith;
        gaps_left = sym (ap (λ l. length (map f l)) is ∙ one_less new judge);
        stock = record { flags_fresh = stock.flags_fresh; gaps_fresh = parts.0 };
      }
