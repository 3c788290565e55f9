use Rattle.std.proofs.Common.{refl}
use Rattle.ptu_lanes.proofs.laws.sample_orders.Goals as goal

pub returns : goal.returns
returns g = (
  refl,
  refl,
  refl,
  refl,
  refl,
  refl,
  refl,
  refl,
  refl,
  refl,
  refl,
  refl,
  refl,
  refl,
  refl,
  refl,
  refl,
  refl,
  refl,
  refl,
  refl,
  refl,
  (λ e. absurd (cc e)),
  (λ e. absurd (cc e)),
)
