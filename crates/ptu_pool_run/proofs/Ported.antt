-- Ports that are lent change nothing that pools stand for.
use Rattle.std.proofs.Common.{◌≡◌, ℕ, zero, suc, ◌<◌, Bool, true, false, cond, eqb, List, [], ◌∷◌, length, set, get_or, slice_get, Option, Some, None, refl, sym, ap, subst, ◌∙◌, arith}
use Rattle.std.proofs.lemmas.Option.{slice_get-get_or}
use Rattle.ptu_history.specs.History.{Record}
use Rattle.ptu_profile.specs.declared.grandmaster.GmConfig.{GmConfig}
use Rattle.ptu_grandmaster.specs.Gm.{KeptGm, StandsFor, with_port}
use Rattle.ptu_pool_run.specs.{Events.{PoolEvent}, Ported.{with_port_at, with_port_of}}
use Rattle.ptu_pool_run.specs.PoolsStanding.{KeptPools, StandFor}
use Rattle.ptu_pool_run.proofs.Standing.{stand-still}

-- the grandmaster with a port chosen by these tests
chosen : {P : Type 0} → Bool → Bool → Bool → Bool → P → KeptGm P → KeptGm P
chosen b4 b0 b1 b2 port gm =
    let table = record (cond b0 gm.s0 (cond b1 gm.s1 (cond b2 gm.s2 gm.s3))) { port = port } in
    cond b4 (record gm { reply = port })
    (cond b0 (record gm { s0 = table }) (cond b1 (record gm { s1 = table }) (cond b2 (record gm { s2 = table }) (record gm { s3 = table }))))

-- one that has changed in ports alone
pub record IsPorted {P : Type 0} (old new : KeptGm P) : Type 0 where
  pub config : new.config ≡ old.config
  pub stands : (opening : ℕ) (history : List Record) → StandsFor opening old history → StandsFor opening new history

chosen-ported : {P : Type 0} (b4 b0 b1 b2 : Bool) (port : P) (gm : KeptGm P) → IsPorted gm (chosen b4 b0 b1 b2 port gm)
unfolding chosen
chosen-ported true b0 b1 b2 port gm = record { config = refl; stands = λ opening history s. record { decided = s.decided; granted = s.granted; refused = s.refused; sequence = s.sequence } }
chosen-ported false true b1 b2 port gm = record { config = refl; stands = λ opening history s. record { decided = s.decided; granted = s.granted; refused = s.refused; sequence = s.sequence } }
chosen-ported false false true b2 port gm = record { config = refl; stands = λ opening history s. record { decided = s.decided; granted = s.granted; refused = s.refused; sequence = s.sequence } }
chosen-ported false false false true port gm = record { config = refl; stands = λ opening history s. record { decided = s.decided; granted = s.granted; refused = s.refused; sequence = s.sequence } }
chosen-ported false false false false port gm = record { config = refl; stands = λ opening history s. record { decided = s.decided; granted = s.granted; refused = s.refused; sequence = s.sequence } }

ported : {P : Type 0} (index : ℕ) (port : P) (gm : KeptGm P) → IsPorted gm (with_port index port gm)
unfolding chosen
ported index port gm = chosen-ported (eqb index 4) (eqb index 0) (eqb index 1) (eqb index 2) port gm

-- the port of one grandmaster in its place
pub with_port_set : {P : Type 0} (gms : List (KeptGm P)) (i index : ℕ) (d : KeptGm P) (port : P) → i < length gms
    → set gms i (with_port index port (get_or gms i d)) ≡ with_port_at i index port gms
with_port_set [] i index d port h = refl
with_port_set (x ∷ gms) zero index d port h = refl
with_port_set (x ∷ gms) (suc i) index d port h = ap (λ l. x ∷ l) (with_port_set gms i index d port (omega arith))

pub stand-ported : {P : Type 0} (config : GmConfig) (kept : KeptPools P) (events : List PoolEvent) (place index : ℕ) (d : KeptGm P) (port : P) → place < length kept.gms
    → StandFor config kept events → StandFor config (with_port_of place index port kept) events
stand-ported {P = P} config kept events place index d port within s =
    let gm = get_or kept.gms place d in
    let same = ported index port gm in
    let stand = stand-still config kept events place gm (with_port index port gm) (slice_get-get_or kept.gms place d within) same.config same.stands s in
    subst (λ gms. let changed : KeptPools P = record kept { gms = gms } in StandFor config changed events) (with_port_set kept.gms place index d port within) stand
