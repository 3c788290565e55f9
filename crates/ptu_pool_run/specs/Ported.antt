-- The ports of pools.
use Rattle.std.specs.Prelude.{ℕ, zero, suc, List, [], ◌∷◌}
use Rattle.ptu_grandmaster.specs.Gm.{KeptGm, with_port}
use Rattle.ptu_pool_run.specs.PoolsStanding.{KeptPools}

-- the grandmasters, of which that at this place has the port of this index
abbrev pub with_port_at : {P : Type 0} → ℕ → ℕ → P → List (KeptGm P) → List (KeptGm P)
with_port_at i index port [] = []
with_port_at zero index port (gm ∷ gms) = with_port index port gm ∷ gms
with_port_at (suc i) index port (gm ∷ gms) = gm ∷ with_port_at i index port gms

-- the pools, of which that at this place has the port of this index
abbrev pub with_port_of : {P : Type 0} → ℕ → ℕ → P → KeptPools P → KeptPools P
with_port_of place index port kept = record kept { gms = with_port_at place index port kept.gms }
