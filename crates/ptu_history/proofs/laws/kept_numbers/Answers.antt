use Rattle.std.proofs.Common.{◌≡◌, ℕ, [], refl}
use Rattle.ptu_history.specs.{History.{capacity_in_force}, Moments.{book_moment, table_moment}}
use Rattle.ptu_history.proofs.Capacities.{budget-same, capacity_in_force-changed, capacity_in_force-unchanged}
use Rattle.ptu_history.proofs.Moments.{book_moment-push, table_moment-push}
use Rattle.ptu_history.proofs.laws.kept_numbers.Goals as goal

no_book : book_moment [] ≡ 0
unfolding book_moment
no_book = refl

no_table : (j : ℕ) → table_moment [] j ≡ 0
unfolding table_moment
no_table j = refl

no_change : (opening : ℕ) → capacity_in_force opening [] ≡ opening
unfolding capacity_in_force
no_change opening = refl

pub returns : goal.returns
returns _ = search (no_book, book_moment-push, no_table, table_moment-push, no_change, capacity_in_force-changed, capacity_in_force-unchanged, budget-same)
