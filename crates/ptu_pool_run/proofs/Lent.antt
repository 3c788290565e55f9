-- The ports of one pool, lent and given back.
use Rattle.std.proofs.Common.{◌≡◌, ◌≢◌, ◌∙◌, ◌⊎◌, inl, inr, ℕ, zero, suc, ◌*◌, ◌<◌, ◌==◌, Bool, true, false, cond, length, List, [], ◌∷◌, slice_get, option_map, Option, Some, None, Result, Ok, Err, refl, sym, ap, subst, arith}
use Rattle.std.specs.Result.{OnOk}
use Rattle.std.proofs.lemmas.Bool.{cases_eq, ne_eqb}
use Rattle.ptu_outside.specs.MemoryPort.{MemoryPort}
use Rattle.ptu_shard.specs.Table.{Kept}
use Rattle.ptu_grandmaster.specs.Gm.{KeptGm, port_at, table_at, with_port}
use Rattle.ptu_pool_run.specs.{Ported.{with_port_at, with_port_of}, PoolsStanding.{KeptPools}}
use Rattle.ptu_nodes.specs.GrandmasterPorts.{HasReplyRoom, HasRoom}
use Rattle.ptu_pool_run.specs.Ports.{AreAllIdle, AreAllSure, GoOnIdle}

pub on_ok_two : {T E P Q R : Type 0} (r : Result T E) → (P → Q → R) → OnOk r P → OnOk r Q → OnOk r R
on_ok_two (Ok x) f p q = f p q
on_ok_two (Err e) f p q = tt

-- ---- all pools

pub go_on_same : (kept : KeptPools MemoryPort) → GoOnIdle kept kept
go_on_same kept = record {
  go_on = record { pools = refl; stand = λ config events stood. stood };
  idle = λ all. all;
  sure = λ all. all;
}

pub go_on_twice : {old between new : KeptPools MemoryPort} → GoOnIdle old between → GoOnIdle between new → GoOnIdle old new
go_on_twice first second = record {
  go_on = record {
    pools = second.go_on.pools ∙ first.go_on.pools;
    stand = λ config events stood. second.go_on.stand config events (first.go_on.stand config events stood);
  };
  idle = λ all. second.idle (first.idle all);
  sure = λ all. second.sure (first.sure all);
}

-- ---- one grandmaster of all

pub others_ported : (gms : List (KeptGm MemoryPort)) (place index : ℕ) (port : MemoryPort) (i : ℕ) → i ≢ place →
    slice_get (with_port_at place index port gms) i ≡ slice_get gms i
others_ported [] place index port i other = refl
others_ported (gm ∷ gms) zero index port zero other = absurd (other refl)
others_ported (gm ∷ gms) zero index port (suc i) other = refl
others_ported (gm ∷ gms) (suc place) index port zero other = refl
others_ported (gm ∷ gms) (suc place) index port (suc i) other = others_ported gms place index port i (λ e. other (ap suc e))

pub here_ported : (gms : List (KeptGm MemoryPort)) (place index : ℕ) (port : MemoryPort) (gm : KeptGm MemoryPort) → slice_get gms place ≡ Some gm →
    slice_get (with_port_at place index port gms) place ≡ Some (with_port index port gm)
here_ported [] place index port gm is = absurd cc
here_ported (x ∷ gms) zero index port gm is = let e : x ≡ gm = cc in ap (λ g. Some (with_port index port g)) e
here_ported (x ∷ gms) (suc place) index port gm is = here_ported gms place index port gm is

-- the grandmaster that a port was lent of
pub record IsLent (gms : List (KeptGm MemoryPort)) (place index : ℕ) (port : MemoryPort) (after : KeptGm MemoryPort) : Type 0 where
  pub before : KeptGm MemoryPort
  pub was : slice_get gms place ≡ Some before
  pub now : after ≡ with_port index port before

pub there_ported : (gms : List (KeptGm MemoryPort)) (place index : ℕ) (port : MemoryPort) (after : KeptGm MemoryPort) →
    slice_get (with_port_at place index port gms) place ≡ Some after → IsLent gms place index port after
there_ported [] place index port after is = absurd cc
there_ported (x ∷ gms) zero index port after is = record { before = x; was = refl; now = let e : with_port index port x ≡ after = cc in sym e }
there_ported (x ∷ gms) (suc place) index port after is =
    let lent = there_ported gms place index port after is in record { before = lent.before; was = lent.was; now = lent.now }

-- ---- idle ports

abbrev table_by : Bool → Bool → Bool → KeptGm MemoryPort → Kept MemoryPort
table_by first one two gm = cond first gm.s0 (cond one gm.s1 (cond two gm.s2 gm.s3))

abbrev with_by : Bool → Bool → Bool → Bool → MemoryPort → KeptGm MemoryPort → KeptGm MemoryPort
with_by four first one two port gm =
    let table : Kept MemoryPort = record (table_by first one two gm) { port = port } in
    cond four (record gm { reply = port })
    (cond first (record gm { s0 = table }) (cond one (record gm { s1 = table }) (cond two (record gm { s2 = table }) (record gm { s3 = table }))))

-- what is so of every port of a grandmaster
abbrev AllPorts : (MemoryPort → Type 0) → KeptGm MemoryPort → Type 0
AllPorts P gm = P gm.s0.port × P gm.s1.port × P gm.s2.port × P gm.s3.port × P gm.reply

all_with : (P : MemoryPort → Type 0) (four first one two : Bool) (port : MemoryPort) (gm : KeptGm MemoryPort) → AllPorts P gm → P port → AllPorts P (with_by four first one two port gm)
all_with P true first one two port gm (e0, e1, e2, e3, e4) own = (e0, e1, e2, e3, own)
all_with P false true one two port gm (e0, e1, e2, e3, e4) own = (own, e1, e2, e3, e4)
all_with P false false true two port gm (e0, e1, e2, e3, e4) own = (e0, own, e2, e3, e4)
all_with P false false false true port gm (e0, e1, e2, e3, e4) own = (e0, e1, own, e3, e4)
all_with P false false false false port gm (e0, e1, e2, e3, e4) own = (e0, e1, e2, own, e4)

own_of_all : (P : MemoryPort → Type 0) (four first one two : Bool) (gm : KeptGm MemoryPort) → AllPorts P gm → P (cond four gm.reply (table_by first one two gm).port)
own_of_all P true first one two gm (e0, e1, e2, e3, e4) = e4
own_of_all P false true one two gm (e0, e1, e2, e3, e4) = e0
own_of_all P false false true two gm (e0, e1, e2, e3, e4) = e1
own_of_all P false false false true gm (e0, e1, e2, e3, e4) = e2
own_of_all P false false false false gm (e0, e1, e2, e3, e4) = e3

-- what was so of every port, and goes over from the port that was lent to the one given back, is so still
still : (P : MemoryPort → Type 0) (kept : KeptPools MemoryPort) (place index : ℕ) (before port : MemoryPort) →
    ((gm : KeptGm MemoryPort) → slice_get kept.gms place ≡ Some gm → port_at index gm ≡ before) → (P before → P port) →
    ((i : ℕ) (gm : KeptGm MemoryPort) → slice_get kept.gms i ≡ Some gm → AllPorts P gm) →
    (i : ℕ) (gm : KeptGm MemoryPort) → slice_get (with_port_at place index port kept.gms) i ≡ Some gm → AllPorts P gm
still P kept place index before port at over all i after now = by (cases_eq i place)
  where
    here : slice_get (with_port_at place index port kept.gms) place ≡ Some after → AllPorts P after
    here there =
        let lent = there_ported kept.gms place index port after there in
        let was : AllPorts P lent.before = all place lent.before lent.was in
        let own : P port = over (subst P (at lent.before lent.was) (own_of_all P (index == 4) (index == 0) (index == 1) (index == 2) lent.before was)) in
        subst (AllPorts P) (sym lent.now) (all_with P (index == 4) (index == 0) (index == 1) (index == 2) port lent.before was own)

    by : (i ≡ place) ⊎ (i ≡ place → ⊥) → AllPorts P after
    by (inl same) = here (subst (λ j. slice_get (with_port_at place index port kept.gms) j ≡ Some after) same now)
    by (inr other) = all i after (sym (others_ported kept.gms place index port i other) ∙ now)

-- where nothing stood in any port, and as much stands in one that was lent, nothing does
pub still_idle : (kept : KeptPools MemoryPort) (place index : ℕ) (before port : MemoryPort) →
    ((gm : KeptGm MemoryPort) → slice_get kept.gms place ≡ Some gm → port_at index gm ≡ before) → port.sent ≡ before.sent →
    AreAllIdle kept → AreAllIdle (with_port_of place index port kept)
still_idle kept place index before port at same = still (λ p. p.sent ≡ []) kept place index before port at (λ none. same ∙ none)

-- where no send of any port was to fail, and of one that was lent the same are to fail, none is
pub still_sure : (kept : KeptPools MemoryPort) (place index : ℕ) (before port : MemoryPort) →
    ((gm : KeptGm MemoryPort) → slice_get kept.gms place ≡ Some gm → port_at index gm ≡ before) → port.failing_sends ≡ before.failing_sends →
    AreAllSure kept → AreAllSure (with_port_of place index port kept)
still_sure kept place index before port at same = still (λ p. p.failing_sends ≡ []) kept place index before port at (λ none. same ∙ none)

-- the port that was lent is that of the grandmaster at the place
pub lent_is : (gms : List (KeptGm MemoryPort)) (place index : ℕ) (gm : KeptGm MemoryPort) (port : MemoryPort) → slice_get gms place ≡ Some gm →
    option_map (port_at index) (slice_get gms place) ≡ Some port → port_at index gm ≡ port
lent_is gms place index gm port at value = let same : Some (port_at index gm) ≡ Some port = ap (option_map (port_at index)) (sym at) ∙ value in cc

-- there is one
pub lent_there : (index : ℕ) (port : MemoryPort) (o : Option (KeptGm MemoryPort)) → option_map (port_at index) o ≡ Some port → (gm : KeptGm MemoryPort) × (o ≡ Some gm)
lent_there index port None value = absurd cc
lent_there index port (Some gm) value = (gm, refl)

-- ---- room

rows_same : (four first one two z o t : Bool) (port : MemoryPort) (gm : KeptGm MemoryPort) →
    (table_by z o t (with_by four first one two port gm)).rows ≡ (table_by z o t gm).rows
rows_same true first one two z o t port gm = refl
rows_same false true one two true o t port gm = refl
rows_same false true one two false o t port gm = refl
rows_same false false true two true o t port gm = refl
rows_same false false true two false true t port gm = refl
rows_same false false true two false false t port gm = refl
rows_same false false false true true o t port gm = refl
rows_same false false false true false true t port gm = refl
rows_same false false false true false false true port gm = refl
rows_same false false false true false false false port gm = refl
rows_same false false false false true o t port gm = refl
rows_same false false false false false true t port gm = refl
rows_same false false false false false false true port gm = refl
rows_same false false false false false false false port gm = refl

port_same : (four first one two : Bool) (port : MemoryPort) (gm : KeptGm MemoryPort) →
    (let after = with_by four first one two port gm in cond four after.reply (table_by first one two after).port ≡ port)
port_same true first one two port gm = refl
port_same false true one two port gm = refl
port_same false false true two port gm = refl
port_same false false false true port gm = refl
port_same false false false false port gm = refl

-- the port that was left is that of the grandmaster at the place
pub port_left : (gms : List (KeptGm MemoryPort)) (place index : ℕ) (port : MemoryPort) (gm : KeptGm MemoryPort) →
    slice_get (with_port_at place index port gms) place ≡ Some gm → port_at index gm ≡ port
port_left gms place index port gm now =
    let lent = there_ported gms place index port gm now in
    ap (port_at index) lent.now ∙ port_same (index == 4) (index == 0) (index == 1) (index == 2) port lent.before

-- where there is room for so many datagrams as a table has rows, there is room for its turn
pub room_for_turn : (kept : KeptPools MemoryPort) (place table count : ℕ) (port : MemoryPort) (gm : KeptGm MemoryPort) → table < 4 →
    option_map (λ (g : KeptGm MemoryPort). length (table_at table g).rows) (slice_get kept.gms place) ≡ Some count →
    slice_get (with_port_at place table port kept.gms) place ≡ Some gm →
    HasRoom count (count * 64) (port_at table gm) →
    HasRoom (length (table_at table gm).rows) (length (table_at table gm).rows * 64) (table_at table gm).port
room_for_turn kept place table count port gm lt counted now room =
    let lent = there_ported kept.gms place table port gm now in
    let rows : (table_at table gm).rows ≡ (table_at table lent.before).rows =
    ap (λ (g : KeptGm MemoryPort). (table_at table g).rows) lent.now ∙ rows_same (table == 4) (table == 0) (table == 1) (table == 2) (table == 0) (table == 1) (table == 2) port lent.before in
    let both : Some (length (table_at table lent.before).rows) ≡ Some count =
    ap (option_map (λ (g : KeptGm MemoryPort). length (table_at table g).rows)) (sym lent.was) ∙ counted in
    let same : length (table_at table lent.before).rows ≡ count = cc in
    let at : port_at table gm ≡ (table_at table gm).port = ap (λ b. cond b gm.reply (table_at table gm).port) (ne_eqb table 4 (λ e. omega (arith, e, lt))) in
    subst (λ (p : MemoryPort). HasRoom (length (table_at table gm).rows) (length (table_at table gm).rows * 64) p) at
    (subst (λ n. HasRoom n (n * 64) (port_at table gm)) (sym (ap length rows ∙ same)) room)

-- room that was made in one port after the other is there in all of them
pub room_for_replies : (place : ℕ) (l0 l1 l2 l3 l4 l5 : List (KeptGm MemoryPort)) (p0 p1 p2 p3 p4 : MemoryPort) →
    l1 ≡ with_port_at place 0 p0 l0 → l2 ≡ with_port_at place 1 p1 l1 → l3 ≡ with_port_at place 2 p2 l2 → l4 ≡ with_port_at place 3 p3 l3 → l5 ≡ with_port_at place 4 p4 l4 →
    ((gm : KeptGm MemoryPort) → slice_get l1 place ≡ Some gm → HasRoom 1 54 gm.s0.port) → ((gm : KeptGm MemoryPort) → slice_get l2 place ≡ Some gm → HasRoom 1 54 gm.s1.port) →
    ((gm : KeptGm MemoryPort) → slice_get l3 place ≡ Some gm → HasRoom 1 54 gm.s2.port) → ((gm : KeptGm MemoryPort) → slice_get l4 place ≡ Some gm → HasRoom 1 54 gm.s3.port) →
    ((gm : KeptGm MemoryPort) → slice_get l5 place ≡ Some gm → HasRoom 1 428 gm.reply) →
    (gm : KeptGm MemoryPort) → slice_get l5 place ≡ Some gm → HasReplyRoom gm
room_for_replies place l0 l1 l2 l3 l4 l5 p0 p1 p2 p3 p4 e1 e2 e3 e4 e5 r0 r1 r2 r3 r4 gm now =
    let at5 = there_ported l4 place 4 p4 gm (ap (λ l. slice_get l place) (sym e5) ∙ now) in
    let at4 = there_ported l3 place 3 p3 at5.before (ap (λ l. slice_get l place) (sym e4) ∙ at5.was) in
    let at3 = there_ported l2 place 2 p2 at4.before (ap (λ l. slice_get l place) (sym e3) ∙ at4.was) in
    let at2 = there_ported l1 place 1 p1 at3.before (ap (λ l. slice_get l place) (sym e2) ∙ at3.was) in
    let s0 : gm.s0.port ≡ at2.before.s0.port =
    ap (λ (g : KeptGm MemoryPort). g.s0.port) at5.now ∙ ap (λ (g : KeptGm MemoryPort). g.s0.port) at4.now ∙ ap (λ (g : KeptGm MemoryPort). g.s0.port) at3.now ∙ ap (λ (g : KeptGm MemoryPort). g.s0.port) at2.now in
    let s1 : gm.s1.port ≡ at3.before.s1.port =
    ap (λ (g : KeptGm MemoryPort). g.s1.port) at5.now ∙ ap (λ (g : KeptGm MemoryPort). g.s1.port) at4.now ∙ ap (λ (g : KeptGm MemoryPort). g.s1.port) at3.now in
    let s2 : gm.s2.port ≡ at4.before.s2.port = ap (λ (g : KeptGm MemoryPort). g.s2.port) at5.now ∙ ap (λ (g : KeptGm MemoryPort). g.s2.port) at4.now in
    let s3 : gm.s3.port ≡ at5.before.s3.port = ap (λ (g : KeptGm MemoryPort). g.s3.port) at5.now in
    record {
      tables = (
        subst (HasRoom 1 54) (sym s0) (r0 at2.before at2.was),
        subst (HasRoom 1 54) (sym s1) (r1 at3.before at3.was),
        subst (HasRoom 1 54) (sym s2) (r2 at4.before at4.was),
        subst (HasRoom 1 54) (sym s3) (r3 at5.before at5.was),
      );
      reply = r4 gm now;
    }
