use Rattle.std.proofs.Common.{refl, ap}
use native.Mathlib.Nat.{ℕ_set}
use Rattle.ptu_slave.proofs.slave.SlaveHasPort.port.Goals as goal

-- that there is a judge for each master is one fact, however it is proved
pub returns : goal.returns
returns g c = (
  (refl, λ w. ap (λ judged. record c.args.self.now { port = w; each_judged = judged }) (ℕ_set _ _ _ _)),
  record { lends = tt; value = refl },
)
