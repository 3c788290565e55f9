-- What pools are after a datagram and after a turn.
use Rattle.std.proofs.Common.{◌≡◌, ℕ, ◌++◌, ◌∷◌, [], ◌<◌, Bool, true, false, cond, eqb, List, get_or, length, map, set, slice_get, position, option_map, Option, Some, None, Result, Ok, Err, OnErr, IsTrue, refl, sym, ap, subst, ◌∙◌, arith}
use Rattle.std.proofs.lemmas.Option.{slice_get-get_or}
use Rattle.ptu_history.specs.Core.{core_step}
use Rattle.ptu_history.specs.Events as happenings
use Rattle.ptu_history.specs.History.{Record}
use Rattle.ptu_profile.specs.declared.grandmaster.GmConfig.{GmConfig}
use Rattle.ptu_shard.specs.Table.{Kept}
use Rattle.ptu_gm_messages.specs.Deciding.{opened_with}
use Rattle.ptu_grandmaster.specs.Gm.{KeptGm, StandsFor, with_table}
use Rattle.ptu_grandmaster.proofs.Heard.{history_after-one}
use Rattle.ptu_pool_run.specs.{declared.pool.Pool.{Pool}, Pool.{AreApart, is_in, is_in_at}}
use Rattle.ptu_pool_run.specs.Events.{PoolEvent, Came, Turned, gm_event}
use Rattle.ptu_pool_run.specs.PoolsStanding.{ChangesOne, KeptPools, StandFor}
use Rattle.ptu_pool_run.proofs.Places.{found_in, found_mine, none_in}
use Rattle.ptu_pool_run.proofs.Standing.{GoesOn, stand-none, stand-one, stand-still}

pub on_err : {A E : Type 0} (r : Result A E) (F : Type 0) → F → OnErr r F
on_err (Ok x) F f = tt
on_err (Err e) F f = f

-- the place that was found among the pools, and the grandmaster that was read there
pub at_place : {P : Type 0} (kept : KeptPools P) (from place : ℕ) (gm : KeptGm P) (pools : List Pool) (found : Option ℕ) → pools ≡ kept.pools → found ≡ position (is_in from) pools →
    found ≡ Some place → place < length pools → length kept.pools ≡ length kept.gms → gm ≡ get_or kept.gms place gm →
    (position (is_in from) kept.pools ≡ Some place) × (slice_get kept.gms place ≡ Some gm)
at_place kept from place gm pools found same is some within each read =
    let inside : place < length kept.pools = subst (λ l. place < length l) same within in
    let inside_gms : place < length kept.gms = omega (arith, inside, each) in (
      subst (λ l. position (is_in from) l ≡ Some place) same (sym is ∙ some),
      slice_get-get_or kept.gms place gm inside_gms ∙ ap Some (sym read),
    )

-- the pools with another grandmaster at this place
abbrev pub changed_at : {P : Type 0} → ℕ → KeptGm P → KeptPools P → KeptPools P
changed_at place gm kept = record kept { gms = set kept.gms place gm }

pub changes_one : {P : Type 0} (kept old : KeptPools P) (place : ℕ) (Change : KeptGm P → KeptGm P → Type 0) (before after : KeptGm P) → kept ≡ old →
    slice_get kept.gms place ≡ Some before → Change before after → ChangesOne place Change old (changed_at place after kept)
changes_one {P = P} kept old place Change before after e at change =
    subst (λ (k : KeptPools P). ChangesOne place Change k (changed_at place after kept)) e
    (record { before = before; after = after; was = at; now = refl; changed = change })

pub is_there : {P : Type 0} (kept old : KeptPools P) (ip place : ℕ) → kept ≡ old → position (is_in ip) kept.pools ≡ Some place → is_in_at old.pools place ip ≡ true
is_there {P = P} kept old ip place e is = subst (λ (k : KeptPools P). is_in_at k.pools place ip ≡ true) e (found_in kept.pools ip place is)

pub in_none : {P : Type 0} (kept old : KeptPools P) (ip : ℕ) → kept ≡ old → position (is_in ip) kept.pools ≡ None → (i : ℕ) → is_in_at old.pools i ip ≡ false
in_none {P = P} kept old ip e none = subst (λ (k : KeptPools P). (i : ℕ) → is_in_at k.pools i ip ≡ false) e (none_in kept.pools ip none)

pub stranger_stands : {P : Type 0} (config : GmConfig) (kept old : KeptPools P) (events : List PoolEvent) (t ip : ℕ) (octets : List ℕ) → kept ≡ old →
    position (is_in ip) kept.pools ≡ None → StandFor config old events → StandFor config old (events ++ Came t ip octets ∷ [])
stranger_stands config kept old events t ip octets e none s = stand-none config old events (Came t ip octets) (in_none kept old ip e none) s

pub taken_stands : {P : Type 0} (config : GmConfig) (kept old : KeptPools P) (events : List PoolEvent) (t ip : ℕ) (octets : List ℕ) (place : ℕ) (before after : KeptGm P) → kept ≡ old →
    AreApart kept.pools → position (is_in ip) kept.pools ≡ Some place → slice_get kept.gms place ≡ Some before → after.config ≡ before.config → GoesOn (gm_event (Came t ip octets)) before after →
    StandFor config old events → StandFor config (changed_at place after kept) (events ++ Came t ip octets ∷ [])
taken_stands {P = P} config kept old events t ip octets place before after e apart is at same goes s =
    stand-one config kept events (Came t ip octets) place before after at (found_mine kept.pools ip place apart is) same goes
    (subst (λ (k : KeptPools P). StandFor config k events) (sym e) s)

pub still_stands : {P : Type 0} (config : GmConfig) (kept old : KeptPools P) (events : List PoolEvent) (place : ℕ) (before after : KeptGm P) → kept ≡ old →
    slice_get kept.gms place ≡ Some before → after.config ≡ before.config → ((opening : ℕ) (history : List Record) → StandsFor opening before history → StandsFor opening after history) →
    StandFor config old events → StandFor config (changed_at place after kept) events
still_stands {P = P} config kept old events place before after e at same still s =
    stand-still config kept events place before after at same still (subst (λ (k : KeptPools P). StandFor config k events) (sym e) s)

-- ---- a turn

chosen-config : {P : Type 0} (b0 b1 b2 : Bool) (table : Kept P) (gm : KeptGm P) →
    (cond b0 (record gm { s0 = table }) (cond b1 (record gm { s1 = table }) (cond b2 (record gm { s2 = table }) (record gm { s3 = table })))).config ≡ gm.config
chosen-config true b1 b2 table gm = refl
chosen-config false true b2 table gm = refl
chosen-config false false true table gm = refl
chosen-config false false false table gm = refl

pub table-config : {P : Type 0} (j : ℕ) (table : Kept P) (gm : KeptGm P) → (with_table j table gm).config ≡ gm.config
table-config j table gm = chosen-config (eqb j 0) (eqb j 1) (eqb j 2) table gm

pub turned_stands : {P : Type 0} (config : GmConfig) (kept old : KeptPools P) (events : List PoolEvent) (t place table : ℕ) (before after : KeptGm P) (left : Kept P) → kept ≡ old →
    slice_get kept.gms place ≡ Some before → after ≡ with_table table left before →
    ((opening : ℕ) (history : List Record) → StandsFor opening before history → StandsFor opening after (history ++ (core_step (opened_with opening before.config) history t (happenings.Turn table)).records)) →
    StandFor config old events → StandFor config (changed_at place after kept) (events ++ Turned t place table ∷ [])
turned_stands {P = P} config kept old events t place table before after left e at rest stands s =
    stand-one config kept events (Turned t place table) place before after at (λ i. refl) (ap (λ (gm : KeptGm P). gm.config) rest ∙ table-config table left before)
    (λ opening history was. subst (StandsFor opening after) (sym (history_after-one (opened_with opening before.config) history t (happenings.Turn table))) (stands opening history was))
    (subst (λ (k : KeptPools P). StandFor config k events) (sym e) s)
