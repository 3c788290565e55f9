-- The test by which keys are found.
use Rattle.std.proofs.Common.{◌≡◌, ◌&&◌, Bool, true, false, ap₂, eqb, refl}
use Rattle.ptu_units.specs.declared.kind.{Kind.{Kind}, Kind.TheVariants.{Announce, Sync, DelayResp}}
use Rattle.ptu_units.specs.contracts.kind.KindPartialEq.TheImpl as kinds
use Rattle.ptu_units.specs.Client.{same_kind, same_lease}
use Rattle.ptu_shard.specs.declared.rows.Key.{Key}
use Rattle.ptu_shard.specs.contracts.rows.KeyPartialEq.TheImpl as keys

kind_eq : (j k : Kind) → kinds.eq-value.it j k ≡ same_kind j k
kind_eq Announce Announce = refl
kind_eq Sync Sync = refl
kind_eq DelayResp DelayResp = refl
kind_eq j k = refl

pub key_eq : (a b : Key) → keys.eq-value.it a b ≡ same_lease a.client a.kind b.client b.kind
key_eq a b =
    ap₂ (λ c k. c && k) (and_assoc (eqb a.client.ip b.client.ip) (eqb a.client.clock b.client.clock) (eqb a.client.port b.client.port)) (kind_eq a.kind b.kind)
  where
    and_assoc : (p q r : Bool) → (p && (q && r)) ≡ ((p && q) && r)
    and_assoc true q r = refl
    and_assoc false q r = refl
