-- The capacity in force after one more record, and the budget where it never changes.
use Rattle.std.proofs.Common.{◌≡◌, ◌∙◌, ℕ, zero, suc, ◌*◌, ◌++◌, List, [], ◌∷◌, false, refl, arith}
use Rattle.std.specs.List.{filter, list_any}
use Rattle.std.proofs.lemmas.Bool.{true≢false}
use Rattle.ptu_history.specs.History.{Record, Granted, Capacity, is_change, capacity_in_force}
use Rattle.ptu_history.specs.Held.{budget, force, is_by}

pub capacity_in_force-append : (opening : ℕ) (history more : List Record) → capacity_in_force opening (history ++ more) ≡ capacity_in_force (capacity_in_force opening history) more
unfolding capacity_in_force
capacity_in_force-append opening [] more = refl
capacity_in_force-append opening (Capacity x capacity ∷ history) more = capacity_in_force-append capacity history more
capacity_in_force-append opening (r ∷ history) more = capacity_in_force-append opening history more

pub capacity_in_force-changed : (opening : ℕ) (history : List Record) (x capacity : ℕ) → capacity_in_force opening (history ++ Capacity x capacity ∷ []) ≡ capacity
unfolding capacity_in_force
capacity_in_force-changed opening history x capacity = capacity_in_force-append opening history (Capacity x capacity ∷ [])

pub capacity_in_force-same : (opening : ℕ) (history : List Record) → list_any is_change history ≡ false → capacity_in_force opening history ≡ opening
unfolding capacity_in_force
capacity_in_force-same opening [] none = refl
capacity_in_force-same opening (Capacity x capacity ∷ history) none = absurd (true≢false none)
capacity_in_force-same opening (Granted n c k l u ∷ history) none = capacity_in_force-same opening history none
capacity_in_force-same opening (r ∷ history) none = capacity_in_force-same opening history none

one_same : (opening : ℕ) (r : Record) → is_change r ≡ false → capacity_in_force opening (r ∷ []) ≡ opening
unfolding capacity_in_force
one_same opening (Capacity x capacity) none = absurd (true≢false none)
one_same opening r none = refl

pub capacity_in_force-unchanged : (opening : ℕ) (history : List Record) (r : Record) → is_change r ≡ false → capacity_in_force opening (history ++ r ∷ []) ≡ capacity_in_force opening history
capacity_in_force-unchanged opening history r none = capacity_in_force-append opening history (r ∷ []) ∙ one_same (capacity_in_force opening history) r none

none_by : (x : ℕ) (history : List Record) → list_any is_change history ≡ false → list_any is_change (filter (is_by x) history) ≡ false
none_by x [] none = refl
none_by x (r ∷ history) none = grind (arith, none_by x history)

pub force-same : (opening : ℕ) (history : List Record) (x : ℕ) → list_any is_change history ≡ false → force opening history x ≡ opening
unfolding force
force-same opening history x none = capacity_in_force-same opening (filter (is_by x) history) (none_by x history none)

pub budget-same : (opening : ℕ) (history : List Record) (x : ℕ) → list_any is_change history ≡ false → budget opening history x ≡ opening * x
unfolding budget
budget-same opening history zero none = omega arith
budget-same opening history (suc x) none = omega (arith, budget-same opening history x none, force-same opening history x none)
