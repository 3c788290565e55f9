-- Grandmasters that are made for pools.
use Rattle.std.proofs.Common.{◌≡◌, ℕ, zero, suc, ◌+◌, ◌*◌, ◌<◌, ◌≤◌, List, [], ◌∷◌, ◌++◌, length, slice_get, Option, Some, None, refl, sym, ap, subst, ◌∙◌, arith, length-append, IsSome, MatchOption}
use Rattle.std.proofs.lemmas.List.{append-nil}
use Rattle.ptu_profile.specs.declared.grandmaster.GmConfig.{GmConfig}
use Rattle.ptu_history.specs.{Core.{core_history}, History.{Record}}
use Rattle.ptu_history.proofs.Histories.{history-none}
use Rattle.ptu_gm_messages.specs.Deciding.{opened_with}
use Rattle.ptu_grandmaster.specs.Gm.{KeptGm, StandsFor, five_ports}
use Rattle.ptu_pool_run.specs.{declared.pool.Pool.{Pool}, Pool.{capacity_at}, Events.{pool_history}}
use Rattle.ptu_pool_run.specs.Making.{AreFresh}
use Rattle.ptu_pool_run.specs.PoolsStanding.{KeptPools, StandFor, ports_of_all}

pub ports-push : {P : Type 0} (gms : List (KeptGm P)) (g : KeptGm P) (rest : List P) →
    ports_of_all (gms ++ g ∷ []) ++ rest ≡ ports_of_all gms ++ g.s0.port ∷ g.s1.port ∷ g.s2.port ∷ g.s3.port ∷ g.reply ∷ rest
ports-push [] g rest = refl
ports-push (x ∷ gms) g rest = ap (λ l. x.s0.port ∷ x.s1.port ∷ x.s2.port ∷ x.s3.port ∷ x.reply ∷ l) (ports-push gms g rest)

length-ports : {P : Type 0} (gms : List (KeptGm P)) → length (ports_of_all gms) ≡ 5 * length gms
length-ports [] = refl
length-ports (x ∷ gms) = omega (arith, length-ports gms)

pub fresh-push : {P : Type 0} (config : GmConfig) (pools : List Pool) (gms : List (KeptGm P)) (g : KeptGm P) (pool : Pool) → AreFresh config pools gms → slice_get pools (length gms) ≡ Some pool
    → g.config ≡ config → StandsFor pool.capacity g [] → AreFresh config pools (gms ++ g ∷ [])
fresh-push config [] [] g pool f e same s = absurd cc
fresh-push config (p ∷ pools) [] g pool f e same s = (same, (let is : pool ≡ p = cc in subst (λ (q : Pool). StandsFor q.capacity g []) is s), tt)
fresh-push config [] (x ∷ gms) g pool f e same s = absurd f
fresh-push config (p ∷ pools) (x ∷ gms) g pool f e same s = (f.0, f.1, fresh-push config pools gms g pool f.2 e same s)

fresh-each : {P : Type 0} (config : GmConfig) (pools : List Pool) (gms : List (KeptGm P)) → AreFresh config pools gms → (i : ℕ) (gm : KeptGm P)
    → slice_get gms i ≡ Some gm → (gm.config ≡ config) × StandsFor (capacity_at pools i) gm []
fresh-each config pools [] f i gm e = absurd cc
fresh-each config [] (x ∷ gms) f i gm e = absurd f
fresh-each config (p ∷ pools) (x ∷ gms) f zero gm e =
    let is : x ≡ gm = cc in subst (λ (y : KeptGm _). (y.config ≡ config) × StandsFor p.capacity y []) is (f.0, f.1)
fresh-each config (p ∷ pools) (x ∷ gms) f (suc i) gm e = fresh-each config pools gms f.2 i gm e

none-yet : (config : GmConfig) (pools : List Pool) (i : ℕ) → pool_history config pools i [] ≡ []
none-yet config pools i = history-none (opened_with (capacity_at pools i) config)

pub fresh-stand : {P : Type 0} (config : GmConfig) (kept : KeptPools P) → AreFresh config kept.pools kept.gms → StandFor config kept []
fresh-stand config kept f = record {
  each = λ i gm e. let fresh = fresh-each config kept.pools kept.gms f i gm e in
      (fresh.0, subst (StandsFor (capacity_at kept.pools i) gm) (sym (none-yet config kept.pools i)) fresh.1);
}

pub rest_long : {P : Type 0} (gms : List (KeptGm P)) (rest all : List P) (i n : ℕ) → ports_of_all gms ++ rest ≡ all → length gms ≡ i → length all ≡ 5 * n → i < n → 5 ≤ length rest
rest_long gms rest all i n e size whole lt = omega (arith, length-append (ports_of_all gms) rest, length-ports gms, ap length e)

pub rest_none : {P : Type 0} (gms : List (KeptGm P)) (rest all : List P) (n : ℕ) → ports_of_all gms ++ rest ≡ all → length gms ≡ n → length all ≡ 5 * n → ports_of_all gms ≡ all
rest_none gms [] all n e size whole = sym (append-nil (ports_of_all gms)) ∙ e
rest_none gms (x ∷ rest) all n e size whole = absurd (omega (arith, length-append (ports_of_all gms) (x ∷ rest), length-ports gms, ap length e))

pub five_are : {A : Type 0} (Q : A → Type 0) (o : Option A) (n : ℕ) → MatchOption o (n < 5) Q → 5 ≤ n → IsSome o
five_are Q None n m h = absurd (omega arith)
five_are Q (Some x) n m h = refl

pub at_some : {A : Type 0} (N : Type 0) (Q : A → Type 0) (o : Option A) (x : A) → o ≡ Some x → MatchOption o N Q → Q x
at_some N Q None x e h = absurd cc
at_some N Q (Some y) x e h = let same : y ≡ x = cc in subst Q same h
