-- The earliest lawful moment after a renewal and after a message.
use Rattle.std.proofs.Common.{◌≡◌, ℕ, ◌+◌, ◌*◌, max, List, [], ◌∷◌, length, arith}
use Rattle.ptu_history.specs.{Moments.{greatest_by}, Lawful.{carried, earliest_credited}}

-- one period more for each
carried-later : (p b after : ℕ) (ts : List ℕ) → max (b + p) (greatest_by (λ t. t) (carried p (after + 1) ts)) ≡ max b (greatest_by (λ t. t) (carried p after ts)) + p
carried-later p b after [] = omega arith
carried-later p b after (t ∷ ts) =
    let ih : max (max b (t + after * p) + p) (greatest_by (λ t. t) (carried p (after + 1 + 1) ts)) ≡ max (max b (t + after * p)) (greatest_by (λ t. t) (carried p (after + 1) ts)) + p
    = carried-later p (max b (t + after * p)) (after + 1) ts in
    omega arith

-- after one more message the earliest moment is the greater of a period later and the message's moment
pub earliest_credited-cons : (p from t : ℕ) (ts : List ℕ) → earliest_credited p from (t ∷ ts) ≡ max (earliest_credited p from ts + p) t
earliest_credited-cons p from t ts =
    let later : max (from + (length ts + 1) * p + p) (greatest_by (λ t. t) (carried p (0 + 1) ts)) ≡ max (from + (length ts + 1) * p) (greatest_by (λ t. t) (carried p 0 ts)) + p
    = carried-later p (from + (length ts + 1) * p) 0 ts in
    omega arith
