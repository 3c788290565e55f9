-- Lines that are written one after the other, for the numbers of a range.
use Rattle.std.proofs.Common.{◌≡◌, ◌∙◌, ℕ, ◌+◌, ◌<◌, ◌≤◌, List, [], ◌∷◌, ◌++◌, take, drop, Option, Result, Ok, Err, OnOk, OnErr, sym, ap, subst, arith}
use Rattle.std.specs.List.{range_with_len}
use Rattle.std.proofs.lemmas.List.{map-id, take-append-drop}
use Rattle.std.proofs.lemmas.List.FromFn.{map-range_with_len_more, take-map-range_with_len}
use Rattle.ptu_outside.specs.Handing.{HasPut, HasPutPart}
use Rattle.ptu_outside.proofs.Putting.{HasPut-append, HasPut-part, HasPutPart-append}

-- one number more
range-more : (a n j : ℕ) → a + n ≡ j → range_with_len a (n + 1) ≡ range_with_len a n ++ j ∷ []
range-more a n j e = sym (map-id (range_with_len a (n + 1))) ∙ map-range_with_len_more (λ x. x) a n j e ∙ ap (λ l. l ++ j ∷ []) (map-id (range_with_len a n))

-- a front of the numbers
range-front : (a n k : ℕ) → k ≤ n → take k (range_with_len a n) ≡ range_with_len a k
range-front a n k le = ap (take k) (sym (map-id (range_with_len a n))) ∙ take-map-range_with_len (λ x. x) a n k le ∙ map-id (range_with_len a k)

-- the first k numbers, one more, and the rest
range-split : (a n k j : ℕ) → a + k ≡ j → k < n → range_with_len a n ≡ (range_with_len a k ++ j ∷ []) ++ drop (k + 1) (range_with_len a n)
range-split a n k j e lt =
    sym (take-append-drop (k + 1) (range_with_len a n))
    ∙ ap (λ l. l ++ drop (k + 1) (range_with_len a n)) (range-front a n (k + 1) (omega arith) ∙ range-more a k j e)

-- for the texts of lists of numbers
module _ {K : Type 0} (W : K → Option (List ℕ)) (H : K → Option (List (List ℕ))) (texts : List ℕ → List (List ℕ))
    (texts-append : (xs ys : List ℕ) → texts (xs ++ ys) ≡ texts xs ++ texts ys) where
  pub wrote_more : (old now new : K) (a k j : ℕ) → a + k ≡ j → HasPut W H old now (texts (range_with_len a k)) → HasPut W H now new (texts (j ∷ []))
      → HasPut W H old new (texts (range_with_len a (k + 1)))
  wrote_more old now new a k j e p q =
      subst (HasPut W H old new) (sym (ap texts (range-more a k j e) ∙ texts-append (range_with_len a k) (j ∷ [])))
      (HasPut-append W H old now new (texts (range_with_len a k)) (texts (j ∷ [])) p q)

  pub wrote_part : (old now new : K) (a n k j : ℕ) → a + k ≡ j → k < n → HasPut W H old now (texts (range_with_len a k)) → HasPutPart W H now new (texts (j ∷ []))
      → HasPutPart W H old new (texts (range_with_len a n))
  wrote_part old now new a n k j e lt p q =
      subst (HasPutPart W H old new) (sym all)
      (HasPutPart-append W H old new (texts (range_with_len a k) ++ texts (j ∷ [])) (texts (drop (k + 1) (range_with_len a n)))
      (HasPut-part W H old now new (texts (range_with_len a k)) (texts (j ∷ [])) p q))
    where
      all : texts (range_with_len a n) ≡ (texts (range_with_len a k) ++ texts (j ∷ [])) ++ texts (drop (k + 1) (range_with_len a n))
      all = ap texts (range-split a n k j e lt) ∙ texts-append (range_with_len a k ++ j ∷ []) (drop (k + 1) (range_with_len a n))
          ∙ ap (λ l. l ++ texts (drop (k + 1) (range_with_len a n))) (texts-append (range_with_len a k) (j ∷ []))

-- ---- by cases on an answer

pub on_ok : {A E : Type 0} (P Q : Type 0) (answer : Result A E) → (P → Q) → OnOk answer P → OnOk answer Q
on_ok P Q (Ok x) f p = f p
on_ok P Q (Err e) f p = tt

pub ok_or_err : {A E : Type 0} (P Q R : Type 0) (answer : Result A E) → (P → R) → (Q → R) → OnOk answer P → OnErr answer Q → R
ok_or_err P Q R (Ok x) f h p q = f p
ok_or_err P Q R (Err e) f h p q = h q
