-- The history of a pool is that of its own events.
use Rattle.std.proofs.Common.{◌≡◌, ℕ, Bool, true, false, cond, List, [], ◌∷◌, ◌++◌, map, filter, slice_get, Option, refl, sym, ap, ap₂, subst, ◌∙◌}
use Rattle.std.specs.Option.{option_map_or}
use Rattle.std.proofs.lemmas.List.Elements.{filter-append}
use Rattle.ptu_profile.specs.declared.grandmaster.GmConfig.{GmConfig}
use Rattle.ptu_grandmaster.specs.Driven.{driven_history}
use Rattle.ptu_pool_run.specs.{declared.pool.Pool.{Pool}, Pool.{capacity_at, is_in}}
use Rattle.ptu_pool_run.specs.Events.{PoolEvent, Came, Turned, gm_event, is_own, own, pool_history}

pub same_own : (config : GmConfig) (pools : List Pool) (i : ℕ) (one other : List PoolEvent) → own pools i one ≡ own pools i other →
    pool_history config pools i one ≡ pool_history config pools i other
same_own config pools i one other same = ap (λ es. driven_history config (capacity_at pools i) (map gm_event es)) same

left_out : (pools : List Pool) (i : ℕ) (e : PoolEvent) (before after : List PoolEvent) → is_own pools i e ≡ false → own pools i (before ++ e ∷ after) ≡ own pools i (before ++ after)
left_out pools i e before after is =
    filter-append (is_own pools i) before (e ∷ after)
    ∙ (ap (λ b. own pools i before ++ cond b (e ∷ own pools i after) (own pools i after)) is ∙ sym (filter-append (is_own pools i) before after))

pub others_left_out : (config : GmConfig) (pools : List Pool) (i : ℕ) (e : PoolEvent) (before after : List PoolEvent) → is_own pools i e ≡ false →
    pool_history config pools i (before ++ e ∷ after) ≡ pool_history config pools i (before ++ after)
others_left_out config pools i e before after is = same_own config pools i (before ++ e ∷ after) (before ++ after) (left_out pools i e before after is)

own_same : (one other : List Pool) (i : ℕ) (e : PoolEvent) → slice_get one i ≡ slice_get other i → is_own one i e ≡ is_own other i e
own_same one other i (Came t from octets) same = ap (λ o. option_map_or (is_in from) o false) same
own_same one other i (Turned t pool table) same = refl

all_same : (one other : List Pool) (i : ℕ) (es : List PoolEvent) → slice_get one i ≡ slice_get other i → own one i es ≡ own other i es
all_same one other i [] same = refl
all_same one other i (e ∷ es) same = ap₂ (λ b rest. cond b (e ∷ rest) rest) (own_same one other i e same) (all_same one other i es same)

pub same_pool : (config : GmConfig) (one other : List Pool) (i : ℕ) (es : List PoolEvent) → slice_get one i ≡ slice_get other i →
    pool_history config one i es ≡ pool_history config other i es
same_pool config one other i es same =
    ap₂ (λ capacity own_events. driven_history config capacity (map gm_event own_events)) (ap (λ o. option_map_or (λ (pool : Pool). pool.capacity) o 0) same) (all_same one other i es same)
