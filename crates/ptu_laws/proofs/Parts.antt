-- Lists of which only a part matters: filters, orders and maps that agree on it.
use Rattle.std.proofs.Common.{◌≡◌, ◌∙◌, List, [], ◌∷◌, map, Bool, true, false, cond, refl, sym, ap}
use Rattle.std.specs.{List.{All, filter}, Ordering.{is_lt}, declared.cmp.Ordering.{Ordering}}
use Rattle.std.proofs.lemmas.{Bool.{false≢true}, List.Elements.{All-head, All-tail}}
use Rattle.std.proofs.lemmas.List.Sorted.{All-permutation}
use Rattle.ptu_history.specs.Order.{in_order, insert_in_order}
use Rattle.ptu_history.proofs.Order.{IsPermutation-in_order}

-- a wider filter first changes nothing
pub filter-wider : {A : Type 0} (p q : A → Bool) → ((x : A) → p x ≡ true → q x ≡ true) → (xs : List A) → filter p (filter q xs) ≡ filter p xs
filter-wider p q wider [] = refl
filter-wider p q wider (x ∷ xs) = at (p x) refl (q x) refl (filter-wider p q wider xs)
  where
    at : (a : Bool) → p x ≡ a → (b : Bool) → q x ≡ b → filter p (filter q xs) ≡ filter p xs → filter p (cond b (x ∷ filter q xs) (filter q xs)) ≡ cond a (x ∷ filter p xs) (filter p xs)
    at true e true f ih = ap (λ b. cond b (x ∷ filter p (filter q xs)) (filter p (filter q xs))) e ∙ ap (λ ys. x ∷ ys) ih
    at true e false f ih = absurd (false≢true (sym f ∙ wider x e))
    at false e true f ih = ap (λ b. cond b (x ∷ filter p (filter q xs)) (filter p (filter q xs))) e ∙ ih
    at false e false f ih = ih

module _ {A : Type 0} (cmp cmp' : A → A → Ordering) (P : A → Type 0) (agree : (x y : A) → P x → P y → cmp x y ≡ cmp' x y) where
  insert-agree : (x : A) (ys : List A) → P x → All P ys → insert_in_order cmp x ys ≡ insert_in_order cmp' x ys
  insert-agree x [] own all = refl
  insert-agree x (y ∷ ys) own all =
      ap (λ o. cond (is_lt o) (y ∷ insert_in_order cmp x ys) (x ∷ y ∷ ys)) (agree y x (All-head P y ys all) own)
      ∙ ap (λ zs. cond (is_lt (cmp' y x)) (y ∷ zs) (x ∷ y ∷ ys)) (insert-agree x ys own (All-tail P y ys all))

  -- orders that agree on the members put them in one order
  pub in_order-agree : (xs : List A) → All P xs → in_order cmp xs ≡ in_order cmp' xs
  in_order-agree [] all = refl
  in_order-agree (x ∷ xs) all =
      ap (λ ys. insert_in_order cmp x ys) (in_order-agree xs (All-tail P x xs all))
      ∙ insert-agree x (in_order cmp' xs) (All-head P x xs all) (All-permutation P xs (in_order cmp' xs) (IsPermutation-in_order cmp' xs) (All-tail P x xs all))

pub map-agree : {A B : Type 0} (f g : A → B) (P : A → Type 0) → ((x : A) → P x → f x ≡ g x) → (xs : List A) → All P xs → map f xs ≡ map g xs
map-agree f g P agree [] all = refl
map-agree f g P agree (x ∷ xs) all =
    ap (λ y. y ∷ map f xs) (agree x (All-head P x xs all)) ∙ ap (λ ys. g x ∷ ys) (map-agree f g P agree xs (All-tail P x xs all))
