-- Whether two clients, kinds or pairs of them are one.
use Rattle.std.proofs.Common.{◌≡◌, ℕ, ◌&&◌, Bool, true, false, eqb, refl, sym, subst}
use Rattle.std.proofs.lemmas.Bool.{eqb-true, eq-eqb, and_parts, and_from, false≢true}
use Rattle.ptu_units.specs.declared.kind.{Kind.{Kind}, Kind.TheVariants.{Announce, Sync, DelayResp}}
use Rattle.ptu_units.specs.declared.client.Client.{Client}
use Rattle.ptu_units.specs.Client.{same_client, same_kind, same_lease, table_of}

client_is : (a b : Client) → a.ip ≡ b.ip → a.clock ≡ b.clock → a.port ≡ b.port → a ≡ b
client_is a b p q r = λ i. record { ip = p i; clock = q i; port = r i }

pub same_client-true : (a b : Client) → same_client a b ≡ true → a ≡ b
same_client-true a b e =
    let abc = and_parts (eqb a.ip b.ip && eqb a.clock b.clock) (eqb a.port b.port) e in
    let ab = and_parts (eqb a.ip b.ip) (eqb a.clock b.clock) abc.0 in
    client_is a b (eqb-true a.ip b.ip ab.0) (eqb-true a.clock b.clock ab.1) (eqb-true a.port b.port abc.1)

pub same_client-refl : (a : Client) → same_client a a ≡ true
same_client-refl a =
    and_from (eqb a.ip a.ip && eqb a.clock a.clock) (eqb a.port a.port)
    (and_from (eqb a.ip a.ip) (eqb a.clock a.clock) (eq-eqb a.ip a.ip refl) (eq-eqb a.clock a.clock refl))
    (eq-eqb a.port a.port refl)

pub same_kind-true : (a b : Kind) → same_kind a b ≡ true → a ≡ b
same_kind-true Announce Announce e = refl
same_kind-true Announce Sync e = absurd (false≢true e)
same_kind-true Announce DelayResp e = absurd (false≢true e)
same_kind-true Sync Announce e = absurd (false≢true e)
same_kind-true Sync Sync e = refl
same_kind-true Sync DelayResp e = absurd (false≢true e)
same_kind-true DelayResp Announce e = absurd (false≢true e)
same_kind-true DelayResp Sync e = absurd (false≢true e)
same_kind-true DelayResp DelayResp e = refl

pub same_kind-refl : (a : Kind) → same_kind a a ≡ true
same_kind-refl Announce = refl
same_kind-refl Sync = refl
same_kind-refl DelayResp = refl

pub same_lease-true : (c : Client) (k : Kind) (c' : Client) (k' : Kind) → same_lease c k c' k' ≡ true → (c ≡ c') × (k ≡ k')
same_lease-true c k c' k' e =
    let parts = and_parts (same_client c c') (same_kind k k') e in
    (same_client-true c c' parts.0, same_kind-true k k' parts.1)

pub same_lease-refl : (c : Client) (k : Kind) → same_lease c k c k ≡ true
same_lease-refl c k = and_from (same_client c c) (same_kind k k) (same_client-refl c) (same_kind-refl k)

-- the two pairs may change places
pub same_lease-sym : (c : Client) (k : Kind) (c' : Client) (k' : Kind) → same_lease c k c' k' ≡ same_lease c' k' c k
same_lease-sym c k c' k' = one (same_lease c k c' k') (same_lease c' k' c k)
    (λ e. let is = same_lease-true c k c' k' e in let P : Client → Kind → Type 0 = λ d j. same_lease d j c k ≡ true in
    subst (λ d. P d k') is.0 (subst (λ j. P c j) is.1 (same_lease-refl c k)))
    (λ e. let is = same_lease-true c' k' c k e in let P : Client → Kind → Type 0 = λ d j. same_lease d j c' k' ≡ true in
    subst (λ d. P d k) is.0 (subst (λ j. P c' j) is.1 (same_lease-refl c' k')))
  where
    one : (x y : Bool) → (x ≡ true → y ≡ true) → (y ≡ true → x ≡ true) → x ≡ y
    one true y f g = sym (f refl)
    one false true f g = g refl
    one false false f g = refl

pub eq-eqb-table : (c : Client) → eqb (table_of c) (table_of c) ≡ true
eq-eqb-table c = eq-eqb (table_of c) (table_of c) refl

pub eq-eqb-self : (n : ℕ) → eqb n n ≡ true
eq-eqb-self n = eq-eqb n n refl
