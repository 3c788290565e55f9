-- Sums over all moments below one, and the exchange of two sums.
use Rattle.std.proofs.Common.{◌≡◌, ◌∙◌, ℕ, zero, suc, ◌+◌, ◌-◌, ◌*◌, ◌≤◌, min, List, [], ◌∷◌, Bool, true, false, ◌&&◌, cond, leb, ltb, refl, sym, ap, arith}
use Rattle.std.specs.List.{filter, sum_by}
use Rattle.std.proofs.{Math.Nat.{mul-suc}, lemmas.Bool.{leb-false, leb-true, ltb-false, ltb-true}}
use Rattle.std.proofs.lemmas.List.Sums.{sum_by-cons}

-- the sum over the moments below this one
unfoldable pub sum_below : ℕ → (ℕ → ℕ) → ℕ
sum_below zero f = 0
sum_below (suc x) f = sum_below x f + f x

pub sum_below-le : (f g : ℕ → ℕ) → ((x : ℕ) → f x ≤ g x) → (n : ℕ) → sum_below n f ≤ sum_below n g
unfolding sum_below
sum_below-le f g le zero = omega arith
sum_below-le f g le (suc n) = omega (arith, sum_below-le f g le n, le n)

pub sum_below-same : (f g : ℕ → ℕ) → ((x : ℕ) → f x ≡ g x) → (n : ℕ) → sum_below n f ≡ sum_below n g
unfolding sum_below
sum_below-same f g same zero = refl
sum_below-same f g same (suc n) = omega (arith, sum_below-same f g same n, same n)

sum_below-zero : (n : ℕ) → sum_below n (λ _. 0) ≡ 0
unfolding sum_below
sum_below-zero zero = refl
sum_below-zero (suc n) = omega (arith, sum_below-zero n)

sum_below-add : (f g : ℕ → ℕ) (n : ℕ) → sum_below n (λ x. f x + g x) ≡ sum_below n f + sum_below n g
unfolding sum_below
sum_below-add f g zero = refl
sum_below-add f g (suc n) = omega (arith, sum_below-add f g n)

-- the order of summation may be exchanged
pub sum-exchange : {A : Type 0} (f : A → ℕ → ℕ) (n : ℕ) (xs : List A) → sum_by (λ a. sum_below n (f a)) xs ≡ sum_below n (λ x. sum_by (λ a. f a x) xs)
sum-exchange f n [] = sym (sum_below-zero n)
sum-exchange f n (a ∷ xs) =
    sum_by-cons (λ a. sum_below n (f a)) a xs
    ∙ ap (λ s. sum_below n (f a) + s) (sum-exchange f n xs)
    ∙ sym (sum_below-add (f a) (λ x. sum_by (λ a. f a x) xs) n)
    ∙ sum_below-same (λ x. f a x + sum_by (λ a. f a x) xs) (λ x. sum_by (λ a. f a x) (a ∷ xs)) (λ x. sym (sum_by-cons (λ a. f a x) a xs)) n

-- a weight over the moments of an interval, as far as this moment
sum_interval : (s e w : ℕ) → s ≤ e → (n : ℕ) → sum_below n (λ x. cond (leb s x && ltb x e) w 0) ≡ w * (min e n - min s n)
unfolding sum_below
sum_interval s e w le zero = let none : min e 0 - min s 0 ≡ 0 = omega arith in sym (ap (λ m. w * m) none ∙ (omega arith))
sum_interval s e w le (suc n) = at (leb s n) refl (ltb n e) refl (sum_interval s e w le n)
  where
    at : (a : Bool) → leb s n ≡ a → (b : Bool) → ltb n e ≡ b → sum_below n (λ x. cond (leb s x && ltb x e) w 0) ≡ w * (min e n - min s n) →
        sum_below n (λ x. cond (leb s x && ltb x e) w 0) + cond (a && b) w 0 ≡ w * (min e (suc n) - min s (suc n))
    at true from true to ih =
        let here : min e (suc n) - min s (suc n) ≡ suc (min e n - min s n) = omega (arith, leb-true s n from, ltb-true n e to) in
        ap (λ m. m + w) ih ∙ sym (ap (λ m. w * m) here ∙ mul-suc w (min e n - min s n))
    at true from false to ih =
        let here : min e (suc n) - min s (suc n) ≡ min e n - min s n = omega (arith, leb-true s n from, ltb-false n e to) in
        ap (λ m. m + 0) ih ∙ (omega arith) ∙ sym (ap (λ m. w * m) here)
    at false from b to ih =
        let here : min e (suc n) - min s (suc n) ≡ min e n - min s n = omega (arith, leb-false s n from) in
        ap (λ m. m + 0) ih ∙ (omega arith) ∙ sym (ap (λ m. w * m) here)

-- a weight over an interval that ends by the moment
pub sum_whole : (s e w n : ℕ) → s ≤ e → e ≤ n → sum_below n (λ x. cond (leb s x && ltb x e) w 0) ≡ w * (e - s)
sum_whole s e w n le by =
    let here : min e n - min s n ≡ e - s = omega arith in
    sum_interval s e w le n ∙ ap (λ m. w * m) here

-- a sum over what passes a test
pub sum-filter : {A : Type 0} (p : A → Bool) (f : A → ℕ) (xs : List A) → sum_by f (filter p xs) ≡ sum_by (λ a. cond (p a) (f a) 0) xs
sum-filter p f [] = refl
sum-filter p f (a ∷ xs) = at (p a) (sum-filter p f xs) ∙ sym (sum_by-cons (λ a. cond (p a) (f a) 0) a xs)
  where
    at : (b : Bool) → sum_by f (filter p xs) ≡ sum_by (λ a. cond (p a) (f a) 0) xs → sum_by f (cond b (a ∷ filter p xs) (filter p xs)) ≡ cond b (f a) 0 + sum_by (λ a. cond (p a) (f a) 0) xs
    at true ih = sum_by-cons f a (filter p xs) ∙ ap (λ n. f a + n) ih
    at false ih = omega (arith, ih)
