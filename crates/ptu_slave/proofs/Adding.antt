-- One judge more, before any event.
use Rattle.std.proofs.Common.{◌≡◌, zero, suc, List, [], ◌∷◌, ◌++◌, map, refl, ap, sym, subst, ◌∙◌, arith}
use Rattle.std.proofs.lemmas.List.{map-append}
use Rattle.std.specs.List.{All, AllByRecursion}
use Rattle.ptu_judges.specs.Held.{Held, IsFresh}
use Rattle.ptu_slave.specs.{Kept.{Kept}, Standing.{StandsFor}}

map-two : {A : Type 0} (f : A → Held) (xs : List A) → map (λ (h : Held). h.rule) (map f xs) ≡ map (λ x. (f x).rule) xs
map-two f [] = refl
map-two f (x ∷ xs) = ap (λ rs. (f x).rule ∷ rs) (map-two f xs)

by_index : {A : Type 0} (f : A → Held) (xs : List A) → AllByRecursion IsFresh (map f xs) → All (λ x. IsFresh (f x)) xs
by_index f [] all k d lt = absurd (omega arith)
by_index f (x ∷ xs) all zero d lt = all.0
by_index f (x ∷ xs) all (suc k) d lt = by_index f xs all.1 k d (omega arith)

pub held_pushed : {A : Type 0} (f : A → Held) (xs ys : List A) (x : A) → ys ≡ xs ++ x ∷ [] → map f ys ≡ map f xs ++ f x ∷ []
held_pushed f xs ys x pushed = ap (map f) pushed ∙ map-append f xs (x ∷ [])

pub fresh_pushed : {A : Type 0} (f : A → Held) (xs ys : List A) (x : A) → ys ≡ xs ++ x ∷ [] → AllByRecursion IsFresh (map f xs ++ f x ∷ []) → All (λ y. IsFresh (f y)) ys
fresh_pushed f xs ys x pushed all = by_index f ys (subst (AllByRecursion IsFresh) (sym (held_pushed f xs ys x pushed)) all)

pub stands_held : {A : Type 0} (f : A → Held) (xs : List A) (helds : List Held) (kept : Kept) → helds ≡ map f xs → StandsFor (map (λ x. (f x).rule) xs) kept helds []
    → StandsFor (map (λ (h : Held). h.rule) helds) kept helds []
stands_held f xs helds kept is stands = subst (λ os. StandsFor os kept helds []) (sym (map-two f xs) ∙ ap (map (λ (h : Held). h.rule)) (sym is)) stands
