-- Pools that were just sold.
use Rattle.std.proofs.Common.{◌≡◌, ℕ, zero, suc, ◌≤◌, List, [], ◌∷◌, ◌++◌, length, slice_get, Some, sym, subst, arith, length-append}
use Rattle.std.specs.List.{All, AllByRecursion}
use Rattle.std.proofs.lemmas.List.Elements.{recursion_from_All}
use Rattle.ptu_outside.specs.MemoryPort.{MemoryPort}
use Rattle.ptu_grandmaster.specs.Gm.{KeptGm}
use Rattle.ptu_script.specs.declared.command.GrandmasterSetup.{GrandmasterSetup}
use Rattle.ptu_pool_run.specs.{declared.pool.Pool.{Pool}, Refusal.{Share}}
use Rattle.ptu_pool_run.specs.PoolsStanding.{KeptPools, StandFor, ports_of_all}
use Rattle.ptu_nodes.specs.Standing.{AreIdle, AreSure, IsIdle, IsUnfailing, setup_config}
use Rattle.ptu_pool_run.specs.Standing.{AreSold}

idle_by : (gms : List (KeptGm MemoryPort)) → AllByRecursion IsIdle (ports_of_all gms) → (i : ℕ) (gm : KeptGm MemoryPort) → slice_get gms i ≡ Some gm → AreIdle gm
idle_by [] all i gm is = absurd cc
idle_by (g ∷ gms) (e0, (e1, (e2, (e3, (e4, rest))))) zero gm is = let same : g ≡ gm = cc in subst AreIdle same (e0, e1, e2, e3, e4)
idle_by (g ∷ gms) (e0, (e1, (e2, (e3, (e4, rest))))) (suc i) gm is = idle_by gms rest i gm is

sure_by : (gms : List (KeptGm MemoryPort)) → AllByRecursion IsUnfailing (ports_of_all gms) → (i : ℕ) (gm : KeptGm MemoryPort) → slice_get gms i ≡ Some gm → AreSure gm
sure_by [] all i gm is = absurd cc
sure_by (g ∷ gms) (e0, (e1, (e2, (e3, (e4, rest))))) zero gm is = let same : g ≡ gm = cc in subst AreSure same (e0, e1, e2, e3, e4)
sure_by (g ∷ gms) (e0, (e1, (e2, (e3, (e4, rest))))) (suc i) gm is = sure_by gms rest i gm is

pub sold_fresh : (setup : GrandmasterSetup) (before : List Pool) (pool : Pool) (kept : KeptPools MemoryPort) (ports : List MemoryPort) →
    Share setup.capacity (before ++ pool ∷ []) →
    kept.pools ≡ before ++ pool ∷ [] → ports_of_all kept.gms ≡ ports → All (λ (port : MemoryPort). port.sent ≡ []) ports → All (λ (port : MemoryPort). port.failing_sends ≡ []) ports → StandFor (setup_config setup) kept [] →
    AreSold setup kept []
sold_fresh setup before pool kept ports share pools_are ports_are idle sure stand = record {
  some = subst (λ (l : List Pool). 1 ≤ length l) (sym pools_are) (omega (arith, length-append before (pool ∷ [])));
  share = subst (Share setup.capacity) (sym pools_are) share;
  stand = stand;
  idle = idle_by kept.gms (recursion_from_All IsIdle (ports_of_all kept.gms) (subst (All (λ (port : MemoryPort). port.sent ≡ [])) (sym ports_are) idle));
  sure = sure_by kept.gms (recursion_from_All IsUnfailing (ports_of_all kept.gms) (subst (All (λ (port : MemoryPort). port.failing_sends ≡ [])) (sym ports_are) sure));
}
