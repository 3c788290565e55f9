-- Lists put in order.
use Rattle.std.specs.{Prelude.{List, [], ◌∷◌, if◌then◌else◌}, Ordering.{is_lt}}
use Rattle.std.specs.declared.cmp.Ordering.{Ordering}

-- the sorted list with one more, which goes before the first that is not below it
abbrev pub insert_in_order : {A : Type 0} → (A → A → Ordering) → A → List A → List A
insert_in_order cmp x [] = x ∷ []
insert_in_order cmp x (y ∷ ys) =
    if is_lt (cmp y x) then y ∷ insert_in_order cmp x ys else x ∷ y ∷ ys

-- the members in order, the least first
abbrev pub in_order : {A : Type 0} → (A → A → Ordering) → List A → List A
in_order cmp [] = []
in_order cmp (x ∷ xs) = insert_in_order cmp x (in_order cmp xs)
