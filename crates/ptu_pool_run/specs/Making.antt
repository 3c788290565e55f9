-- Grandmasters as they are made for pools.
use Rattle.std.specs.Prelude.{◌≡◌, List, [], ◌∷◌}
use Rattle.ptu_profile.specs.declared.grandmaster.GmConfig.{GmConfig}
use Rattle.ptu_grandmaster.specs.Gm.{KeptGm, StandsFor}
use Rattle.ptu_pool_run.specs.declared.pool.Pool.{Pool}

-- each grandmaster is set up so, stands for the empty history, and was opened with the capacity of the pool at its place
abbrev pub AreFresh : {P : Type 0} → GmConfig → List Pool → List (KeptGm P) → Type 0
AreFresh config pools [] = Unit {0}
AreFresh config [] (gm ∷ gms) = ⊥
AreFresh config (pool ∷ pools) (gm ∷ gms) = (gm.config ≡ config) × StandsFor pool.capacity gm [] × AreFresh config pools gms
