use Rattle.std.proofs.Common.{ℕ, ◌≡◌, ◌≤◌, ◌++◌, List, length}
use Rattle.std.specs.List.Sorted.{IsPermutation, IsSorted}
use Rattle.ptu_history.specs.{History.{Record}, Live.{Grant, live_grants}, Verdict.{rate_sum}}
use Rattle.ptu_history.specs.Shedding.{shed_cmp, shed_grants, shed_order}
use Rattle.ptu_history.proofs.Order.{IsAsymmetric-total, IsPermutation-in_order, IsSorted-in_order, shed_cmp-total, shed_prefix-rest, shed_prefix-shortest}
use Rattle.ptu_history.proofs.Orders.{shed_order-distinct, shed_order-members, shed_order-only}
use Rattle.ptu_history.proofs.laws.shedding.Goals as goal

rest_fits : (history : List Record) (x capacity : ℕ) → (rest : List Grant) × (shed_grants history x capacity ++ rest ≡ shed_order history x) × (rate_sum rest ≤ capacity)
unfolding shed_grants
rest_fits history x capacity = shed_prefix-rest capacity (shed_order history x)

shortest : (history : List Record) (x capacity : ℕ) (front rest : List Grant) → front ++ rest ≡ shed_order history x → rate_sum rest ≤ capacity → length (shed_grants history x capacity) ≤ length front
unfolding shed_grants
shortest history x capacity front rest is fits = shed_prefix-shortest capacity (shed_order history x) front rest is fits

permutes : (history : List Record) (x : ℕ) → IsPermutation (live_grants history x) (shed_order history x)
unfolding shed_order
permutes history x = IsPermutation-in_order shed_cmp (live_grants history x)

ordered : (history : List Record) (x : ℕ) → IsSorted shed_cmp (shed_order history x)
unfolding shed_order
ordered history x = IsSorted-in_order shed_cmp (IsAsymmetric-total shed_cmp shed_cmp-total) (live_grants history x)

pub returns : goal.returns
returns _ = record {
  rest_fits = rest_fits;
  shortest = shortest;
  permutes = permutes;
  members = shed_order-members;
  ordered = ordered;
  distinct = shed_order-distinct;
  only = shed_order-only;
}
