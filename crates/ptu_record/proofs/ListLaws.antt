-- Laws of the words on lists: what one member more changes.
use Rattle.std.proofs.Common.{◌≡◌, ℕ, ◌+◌, max, Bool, true, false, cond, ◌||◌, List, [], ◌∷◌, ◌++◌, Option, Some, None, refl, ap, sym, ◌∙◌, arith, ltb}
use Rattle.std.proofs.lemmas.{Bool.Decides.{nat_tests}, List.Folds.{list_any-append}}
use Rattle.std.proofs.lemmas.List.Elements.{filter_map-append}
use Rattle.std.specs.{List.{last_or, list_any, filter_map, cons_option}, Option.{option_to_list}}
use Rattle.ptu_record.specs.Lists.{last, maximum, neighbours, since_last, newest_of, latest_of, later_of}

pub last_or-append : {A : Type 0} (o : Option A) (xs ys : List A) → last_or o (xs ++ ys) ≡ last_or (last_or o xs) ys
last_or-append o [] ys = refl
last_or-append o (x ∷ xs) ys = last_or-append (Some x) xs ys

pub last-push : {A : Type 0} (xs : List A) (x : A) → last (xs ++ x ∷ []) ≡ Some x
last-push xs x = last_or-append None xs (x ∷ [])

pub last_or-cons_option : {A : Type 0} (o y : Option A) → last_or o (cons_option y []) ≡ newest_of y o
last_or-cons_option o None = refl
last_or-cons_option o (Some x) = refl

-- the last of what a list gives, with one member more
pub last-filter_map : {A B : Type 0} (h : A → Option B) (xs : List A) (x : A) → last (filter_map h (xs ++ x ∷ [])) ≡ newest_of (h x) (last (filter_map h xs))
last-filter_map h xs x =
    ap last (filter_map-append h xs (x ∷ [])) ∙ last_or-append None (filter_map h xs) (cons_option (h x) []) ∙ last_or-cons_option (last (filter_map h xs)) (h x)

pub cons_option-nil : {A : Type 0} (y : Option A) → cons_option y [] ≡ option_to_list y
cons_option-nil None = refl
cons_option-nil (Some x) = refl

pub filter_map-push : {A B : Type 0} (h : A → Option B) (xs : List A) (x : A) → filter_map h (xs ++ x ∷ []) ≡ filter_map h xs ++ option_to_list (h x)
filter_map-push h xs x = filter_map-append h xs (x ∷ []) ∙ ap (λ w. filter_map h xs ++ w) (cons_option-nil (h x))

pub maximum-append : (xs ys : List ℕ) → maximum (xs ++ ys) ≡ max (maximum xs) (maximum ys)
maximum-append [] ys = omega arith
maximum-append (x ∷ xs) ys = omega (arith, maximum-append xs ys)

pub later_of-none : (a : Option ℕ) → later_of a None ≡ a
later_of-none None = refl
later_of-none (Some a) = refl

pub later_of-comm : (a b : Option ℕ) → later_of a b ≡ later_of b a
later_of-comm None None = refl
later_of-comm None (Some b) = refl
later_of-comm (Some a) None = refl
later_of-comm (Some a) (Some b) = ap Some (omega arith)

pub later_of-assoc : (a b c : Option ℕ) → later_of (later_of a b) c ≡ later_of a (later_of b c)
later_of-assoc None b c = refl
later_of-assoc (Some a) None c = refl
later_of-assoc (Some a) (Some b) None = refl
later_of-assoc (Some a) (Some b) (Some c) = ap Some (omega arith)

pub latest_of-cons : (x : ℕ) (xs : List ℕ) → latest_of (x ∷ xs) ≡ later_of (Some x) (latest_of xs)
latest_of-cons x [] = ap Some (omega arith)
latest_of-cons x (y ∷ ys) = refl

pub latest_of-append : (xs ys : List ℕ) → latest_of (xs ++ ys) ≡ later_of (latest_of xs) (latest_of ys)
latest_of-append [] ys = refl
latest_of-append (x ∷ xs) ys =
    latest_of-cons x (xs ++ ys) ∙ ap (later_of (Some x)) (latest_of-append xs ys) ∙ sym (later_of-assoc (Some x) (latest_of xs) (latest_of ys)) ∙ ap (λ w. later_of w (latest_of ys)) (sym (latest_of-cons x xs))

pub latest_of-option : (o : Option ℕ) → latest_of (option_to_list o) ≡ o
latest_of-option None = refl
latest_of-option (Some x) = ap Some (omega arith)

-- each member with the one behind it, with one member more
abbrev pub beside : {A : Type 0} → Option A → A → List (A × A)
beside None y = []
beside (Some x) y = (x, y) ∷ []

neighbours-more : {A : Type 0} (x : A) (xs : List A) (y : A) → neighbours ((x ∷ xs) ++ y ∷ []) ≡ neighbours (x ∷ xs) ++ beside (last_or (Some x) xs) y
neighbours-more x [] y = refl
neighbours-more x (z ∷ zs) y = ap (λ w. (x, z) ∷ w) (neighbours-more z zs y)

pub neighbours-push : {A : Type 0} (xs : List A) (y : A) → neighbours (xs ++ y ∷ []) ≡ neighbours xs ++ beside (last xs) y
neighbours-push [] y = refl
neighbours-push (x ∷ xs) y = neighbours-more x xs y

pub since_last-push : {A : Type 0} (p : A → Bool) (xs : List A) (x : A) → since_last p (xs ++ x ∷ []) ≡ cond (p x) [] (since_last p xs ++ x ∷ [])
since_last-push p [] x = pick (p x)
  where
    pick : (b : Bool) → cond b [] (x ∷ []) ≡ cond b [] (x ∷ [])
    pick b = refl
since_last-push p (y ∷ ys) x =
    ap (λ b. cond b (since_last p (ys ++ x ∷ [])) (cond (p y) (ys ++ x ∷ []) (y ∷ ys ++ x ∷ []))) (list_any-append p ys (x ∷ []))
    ∙ ap (λ w. cond (list_any p ys || (p x || false)) w (cond (p y) (ys ++ x ∷ []) (y ∷ ys ++ x ∷ []))) (since_last-push p ys x)
    ∙ pick (list_any p ys) (p y) (p x)
  where
    pick : (a b c : Bool) → cond (a || (c || false)) (cond c [] (since_last p ys ++ x ∷ [])) (cond b (ys ++ x ∷ []) (y ∷ ys ++ x ∷ [])) ≡ cond c [] (cond a (since_last p ys) (cond b ys (y ∷ ys)) ++ x ∷ [])
    pick true b true = refl
    pick true b false = refl
    pick false true true = refl
    pick false true false = refl
    pick false false true = refl
    pick false false false = refl

-- some member lies less than so much before t exactly where the greatest does
within_max : (a b w t : ℕ) → (ltb t (a + w) || ltb t (b + w)) ≡ ltb t (max a b + w)
within_max a b w t = grind (arith, nat_tests)

pub any_within : (w t x : ℕ) (xs : List ℕ) → list_any (λ o. ltb t (o + w)) (x ∷ xs) ≡ ltb t (maximum (x ∷ xs) + w)
any_within w t x [] = grind (arith, nat_tests)
any_within w t x (y ∷ ys) = ap (λ b. ltb t (x + w) || b) (any_within w t y ys) ∙ within_max x (maximum (y ∷ ys)) w t
