-- All pools stay within the whole capacity.
use Rattle.std.proofs.Common.{◌≡◌, ℕ, zero, suc, ◌+◌, ◌*◌, ◌≤◌, Bool, true, false, cond, ◌||◌, List, [], ◌∷◌, ◌++◌, length, map, filter, slice_get, sum_by, Option, Some, None, Result, Ok, Err, refl, sym, ap, subst, ◌∙◌, arith}
use Rattle.std.specs.List.{cons_option, filter_map, flat_map, list_any, range_with_len}
use Rattle.std.specs.Prelude.{option_map}
use Rattle.std.proofs.lemmas.{Bool.{or_parts}, List.Folds.{list_any-append}}
use Rattle.std.proofs.lemmas.{List.Sums.{sum_by-cons}, Nat.{mul-le}}
use Rattle.ptu_units.specs.{Kind.{kind_of}, declared.kind.Kind.{Kind}}
use Rattle.ptu_units.specs.declared.client.Client.{Client}
use Rattle.ptu_history.specs.Events as events
use Rattle.ptu_history.specs.{Events.{Event}, Held.{count, force, held, is_by}}
use Rattle.ptu_history.specs.History.{Record, capacity_in_force, is_change}
use Rattle.ptu_history.proofs.AfterSteps.{capacity_in_force-quiet}
use Rattle.ptu_laws.specs.Changes.{is_resize}
use Rattle.ptu_laws.proofs.{Budget.{count-constant, history-unchanged}, Capacity.{held-within}}
use Rattle.ptu_profile.specs.declared.grandmaster.GmConfig.{GmConfig}
use Rattle.ptu_gm_messages.specs.declared.heard.Heard.{Heard}
use Rattle.ptu_gm_messages.specs.declared.heard.Heard.TheVariants as heard
use Rattle.ptu_gm_messages.specs.declared.item.Item.{Item}
use Rattle.ptu_gm_messages.specs.declared.item.Item.TheVariants as items
use Rattle.ptu_gm_messages.specs.declared.reason.GmReason.{GmReason}
use Rattle.ptu_gm_messages.specs.Deciding.{asked_by, client_of, event_of, events_heard, events_of_items, opened_with}
use Rattle.ptu_gm_messages.specs.Items.{heard_in}
use Rattle.ptu_grandmaster.specs.Driven.{events_of}
use Rattle.ptu_pool_run.specs.{declared.pool.Pool.{Pool}, Pool.{capacity_at}}
use Rattle.ptu_pool_run.specs.Refusal.{Share, capacities}
use Rattle.ptu_pool_run.specs.Events.{PoolEvent, Came, Turned, gm_event, over_all, own, pool_history}

-- ---- no event of a pool changes a capacity

abbrev pub resizes : ℕ × Event → Bool
resizes e = is_resize e.1

abbrev pub Quiet : List (ℕ × Event) → Type 0
Quiet es = list_any resizes es ≡ false

with_event : (t : ℕ) (o : Option Event) (es : List Event) → ((e : Event) → o ≡ Some e → is_resize e ≡ false) → Quiet (map (λ e. (t, e)) es) → Quiet (map (λ e. (t, e)) (cons_option o es))
with_event t None es one h = h
with_event t (Some e) es one h = ap (λ b. b || list_any resizes (map (λ e. (t, e)) es)) (one e refl) ∙ h

cancel_quiet : (c : Client) (o : Option Kind) (e : Event) → option_map (events.Cancel c) o ≡ Some e → is_resize e ≡ false
cancel_quiet c None e is = absurd cc
cancel_quiet c (Some k) e is = let same : events.Cancel c k ≡ e = cc in ap is_resize (sym same)

item_quiet : (c : Client) (item : Item) (e : Event) → event_of c item ≡ Some e → is_resize e ≡ false
item_quiet c (items.Request ask) e is = let same : events.Request c (asked_by ask) ≡ e = cc in ap is_resize (sym same)
item_quiet c (items.Cancel code) e is = cancel_quiet c (kind_of code) e is

pub items_quiet : (t : ℕ) (c : Client) (is : List Item) → Quiet (events_of_items t c is)
items_quiet t c [] = refl
items_quiet t c (item ∷ is) = with_event t (event_of c item) (filter_map (event_of c) is) (item_quiet c item) (items_quiet t c is)

heard_quiet : (t from : ℕ) (what : Result Heard GmReason) → Quiet (events_heard t from what)
heard_quiet t from (Ok (heard.DelayReq header)) = refl
heard_quiet t from (Ok (heard.Asks header is)) = items_quiet t (client_of from header) is
heard_quiet t from (Err reason) = refl

event_quiet : (config : GmConfig) (e : PoolEvent) → Quiet (events_of config (gm_event e))
event_quiet config (Came t from octets) = heard_quiet t from (heard_in config octets)
event_quiet config (Turned t pool table) = refl

pub all_quiet : (config : GmConfig) (es : List PoolEvent) → Quiet (flat_map (events_of config) (map gm_event es))
all_quiet config [] = refl
all_quiet config (e ∷ es) =
    list_any-append resizes (events_of config (gm_event e)) (flat_map (events_of config) (map gm_event es))
    ∙ (ap (λ b. b || list_any resizes (flat_map (events_of config) (map gm_event es))) (event_quiet config e) ∙ all_quiet config es)

-- ---- within a pool

filter_quiet : (p : Record → Bool) (rs : List Record) → list_any is_change rs ≡ false → list_any is_change (filter p rs) ≡ false
filter_quiet p [] none = refl
filter_quiet p (r ∷ rs) none =
    let parts = or_parts (is_change r) (list_any is_change rs) none in
    by (p r) parts.0 (filter_quiet p rs parts.1)
  where
    by : (b : Bool) → is_change r ≡ false → list_any is_change (filter p rs) ≡ false → list_any is_change (cond b (r ∷ filter p rs) (filter p rs)) ≡ false
    by true one rest = ap (λ c. c || list_any is_change (filter p rs)) one ∙ rest
    by false one rest = rest

force_is : (opening : ℕ) (history : List Record) (x : ℕ) → list_any is_change history ≡ false → force opening history x ≡ opening
unfolding force capacity_in_force
force_is opening history x none = capacity_in_force-quiet opening [] (filter (is_by x) history) (filter_quiet (is_by x) history none)

pub held_own : (config : GmConfig) (pools : List Pool) (events : List PoolEvent) (i x : ℕ) → held (pool_history config pools i events) x ≤ capacity_at pools i
held_own config pools events i x =
    let opened = opened_with (capacity_at pools i) config in
    let es = flat_map (events_of config) (map gm_event (own pools i events)) in
    let within = held-within opened es x in
    let is = force_is (capacity_at pools i) (pool_history config pools i events) x (history-unchanged opened es (all_quiet config (own pools i events))) in
    omega (arith, within, is)

count_own : (config : GmConfig) (pools : List Pool) (events : List PoolEvent) (i x : ℕ) → count (pool_history config pools i events) x * (16 * 1000000000) ≤ capacity_at pools i * x
count_own config pools events i x =
    count-constant (opened_with (capacity_at pools i) config) (flat_map (events_of config) (map gm_event (own pools i events))) x (all_quiet config (own pools i events))

-- ---- over all pools

-- the sum over places is at most that of the numbers that bound it there
sum_within : (f g : ℕ → ℕ) (a n : ℕ) → ((i : ℕ) → f i ≤ g i) → sum_by f (range_with_len a n) ≤ sum_by g (range_with_len a n)
sum_within f g a zero le = omega arith
sum_within f g a (suc n) le =
    let one = le a in
    let more = sum_within f g (a + 1) n le in
    let left = sum_by-cons f a (range_with_len (a + 1) n) in
    let right = sum_by-cons g a (range_with_len (a + 1) n) in
    omega (arith, one, more, left, right)

-- the places of a list behind a first one
sum_moved : (f g : ℕ → ℕ) (a b n : ℕ) → ((i : ℕ) → f (a + i) ≡ g (b + i)) → sum_by f (range_with_len a n) ≡ sum_by g (range_with_len b n)
sum_moved f g a b zero same = refl
sum_moved f g a b (suc n) same =
    let first : f a ≡ g b = (let e = same 0 in subst (λ k. f k ≡ g b) (let z : a + 0 ≡ a = omega arith in z) (subst (λ k. f (a + 0) ≡ g k) (let z : b + 0 ≡ b = omega arith in z) e)) in
    let more : sum_by f (range_with_len (a + 1) n) ≡ sum_by g (range_with_len (b + 1) n) = sum_moved f g (a + 1) (b + 1) n (λ i. next i) in
    let left = sum_by-cons f a (range_with_len (a + 1) n) in
    let right = sum_by-cons g b (range_with_len (b + 1) n) in
    omega (arith, first, more, left, right)
  where
    next : (i : ℕ) → f (a + 1 + i) ≡ g (b + 1 + i)
    next i =
        let left : a + suc i ≡ a + 1 + i = omega arith in
        let right : b + suc i ≡ b + 1 + i = omega arith in
        sym (ap f left) ∙ (same (suc i) ∙ ap g right)

capacities_are : (pools : List Pool) → over_all pools (capacity_at pools) ≡ capacities pools
capacities_are [] = refl
capacities_are (pool ∷ pools) =
    let rest = sum_moved (capacity_at (pool ∷ pools)) (capacity_at pools) 1 0 (length pools) (λ i. behind i) in
    let whole = capacities_are pools in
    let left = sum_by-cons (capacity_at (pool ∷ pools)) 0 (range_with_len 1 (length pools)) in
    let right = sum_by-cons (λ (p : Pool). p.capacity) pool pools in
    omega (arith, rest, whole, left, right)
  where
    behind : (i : ℕ) → capacity_at (pool ∷ pools) (1 + i) ≡ capacity_at pools (0 + i)
    behind i = let e : 1 + i ≡ suc i = omega arith in let z : 0 + i ≡ i = omega arith in ap (capacity_at (pool ∷ pools)) e ∙ sym (ap (capacity_at pools) z)

pub held_whole : (config : GmConfig) (capacity : ℕ) (pools : List Pool) (events : List PoolEvent) (x : ℕ) → Share capacity pools →
    over_all pools (λ i. held (pool_history config pools i events) x) ≤ capacity
held_whole config capacity pools events x share =
    let each = sum_within (λ i. held (pool_history config pools i events) x) (capacity_at pools) 0 (length pools) (λ i. held_own config pools events i x) in
    let sum = capacities_are pools in
    let within = share.within in
    omega (arith, each, sum, within)

-- the sum of products by one number
sum_times : (f : ℕ → ℕ) (k a n : ℕ) → sum_by (λ i. f i * k) (range_with_len a n) ≡ sum_by f (range_with_len a n) * k
sum_times f k a zero = omega arith
sum_times f k a (suc n) =
    let more = sum_times f k (a + 1) n in
    let left = sum_by-cons (λ i. f i * k) a (range_with_len (a + 1) n) in
    let right = sum_by-cons f a (range_with_len (a + 1) n) in
    left ∙ (ap (λ s. f a * k + s) more ∙ (sum_product (f a) (sum_by f (range_with_len (a + 1) n)) k ∙ sym (ap (λ s. s * k) right)))
  where
    sum_product : (m n k : ℕ) → m * k + n * k ≡ (m + n) * k
    sum_product m n k = omega arith

pub count_whole : (config : GmConfig) (capacity : ℕ) (pools : List Pool) (events : List PoolEvent) (x : ℕ) → Share capacity pools →
    over_all pools (λ i. count (pool_history config pools i events) x) * (16 * 1000000000) ≤ capacity * x
count_whole config capacity pools events x share =
    let sent : ℕ → ℕ = λ i. count (pool_history config pools i events) x in
    let n = length pools in
    let each : sum_by (λ i. sent i * (16 * 1000000000)) (range_with_len 0 n) ≤ sum_by (λ i. capacity_at pools i * x) (range_with_len 0 n)
    = sum_within (λ i. sent i * (16 * 1000000000)) (λ i. capacity_at pools i * x) 0 n (λ i. count_own config pools events i x) in
    let left = sum_times sent (16 * 1000000000) 0 n in
    let right : sum_by (λ i. capacity_at pools i * x) (range_with_len 0 n) ≡ capacities pools * x = sum_times (capacity_at pools) x 0 n ∙ ap (λ s. s * x) (capacities_are pools) in
    let within : capacities pools * x ≤ capacity * x = mul-le (capacities pools) x capacity x share.within (let le : x ≤ x = omega arith in le) in
    omega (arith, each, left, right, within)
