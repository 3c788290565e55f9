use Rattle.std.proofs.Common.{ℕ, List}
use Rattle.std.specs.{List.{filter}, List.Sorted.{IsPermutation, IsSorted}}
use Rattle.ptu_history.specs.{History.{Record}, Live.{live_grants}}
use Rattle.ptu_history.specs.Turns.{due_grants, is_due, turn_cmp}
use Rattle.ptu_history.proofs.Order.{IsAsymmetric-total, IsPermutation-in_order, IsSorted-in_order, turn_cmp-total}
use Rattle.ptu_history.proofs.Orders.{due_grants-distinct, due_grants-members, due_grants-only, is_due-parts}
use Rattle.ptu_history.proofs.laws.turn_order.Goals as goal

permutes : (history : List Record) (x j : ℕ) → IsPermutation (filter (is_due history x j) (live_grants history x)) (due_grants history x j)
unfolding due_grants
permutes history x j = IsPermutation-in_order (turn_cmp history) (filter (is_due history x j) (live_grants history x))

ordered : (history : List Record) (x j : ℕ) → IsSorted (turn_cmp history) (due_grants history x j)
unfolding due_grants
ordered history x j = IsSorted-in_order (turn_cmp history) (IsAsymmetric-total (turn_cmp history) (turn_cmp-total history)) (filter (is_due history x j) (live_grants history x))

pub returns : goal.returns
returns _ = search (is_due-parts, permutes, due_grants-members, ordered, due_grants-distinct, due_grants-only)
