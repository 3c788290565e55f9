-- The entries of a map by client and kind, as rows.
use Rattle.std.proofs.Common.{◌≡◌, ◌∙◌, List, [], ◌∷◌, Bool, true, false, cond, refl, sym, ap, ap₂, subst, map, Option, Some}
use Rattle.std.specs.{List.{find, IsDistinct}, Map.{keys_of, lookup, set_value}}
use Rattle.std.specs.Option.{option_map}
use Rattle.std.proofs.lemmas.{Bool.{true≢false}, List.Elements.{All-contains, All-from_recursion}}
use Rattle.ptu_units.specs.declared.kind.Kind.{Kind}
use Rattle.ptu_units.specs.{declared.client.Client.{Client}, Client.{same_lease}}
use Rattle.ptu_units.proofs.Keys.{same_lease-true}
use Rattle.ptu_history.proofs.Unique.{Apart}
use Rattle.ptu_shard.specs.declared.{lease.Lease.{Lease}, lease.Row.{Row}, rows.Key.{Key}}
use Rattle.ptu_shard.specs.{Fields.{row_of, rows_of}, Row.{is_row_of, lease_of}}
use Rattle.ptu_shard.proofs.{RowLists.{Differ}, Spending.{Contains-image, IsImage, image}}
use Rattle.ptu_shard.proofs.Members.{map_same, missing_below}

-- a test of keys that is the test of rows
module _ (k : Key) (test : Key → Bool) (agree : (a : Key) → test a ≡ same_lease k.client k.kind a.client a.kind) where
  -- what is looked up is the lease of the client and kind
  pub found_is : (es : List (Key × Lease)) → lookup test es ≡ lease_of k.client k.kind (rows_of es)
  found_is [] = refl
  found_is (e ∷ es) = at (test e.0) (is_row_of k.client k.kind (row_of e)) (agree e.0) (found_is es)
    where
      at : (a b : Bool) → a ≡ b → lookup test es ≡ lease_of k.client k.kind (rows_of es) →
          cond a (Some e.1) (lookup test es) ≡ option_map (λ (row : Row). row.lease) (cond b (Some (row_of e)) (find (is_row_of k.client k.kind) (rows_of es)))
      at true true same ih = refl
      at true false same ih = absurd (true≢false same)
      at false true same ih = absurd (true≢false (sym same))
      at false false same ih = ih

  own_key : (e : Key × Lease) → test e.0 ≡ true → (k.client ≡ e.0.client) × (k.kind ≡ e.0.kind)
  own_key e own = same_lease-true k.client k.kind e.0.client e.0.kind (sym (agree e.0) ∙ own)

  -- a lease that is written in place
  abbrev pub written : Lease → Row → Row
  written w row = cond (is_row_of k.client k.kind row) (row_of (k, w)) row

  pub rows_written : (es : List (Key × Lease)) (w : Lease) → Apart Differ (rows_of es) → rows_of (set_value test es w) ≡ map (written w) (rows_of es)
  rows_written [] w apart = refl
  rows_written (e ∷ es) w apart = at (test e.0) refl (rows_written es w apart.1)
    where
      at : (b : Bool) → test e.0 ≡ b → rows_of (set_value test es w) ≡ map (written w) (rows_of es) →
          rows_of (cond b ((e.0, w) ∷ es) (e ∷ set_value test es w)) ≡ written w (row_of e) ∷ map (written w) (rows_of es)
      at true own ih =
          let same = own_key e own in
          let is : is_row_of k.client k.kind (row_of e) ≡ true = sym (agree e.0) ∙ own in
          ap₂ (λ a l. a ∷ l)
          ((λ i. record { client = sym same.0 i; kind = sym same.1 i; lease = w }) ∙ sym (ap (λ b. cond b (row_of (k, w)) (row_of e)) is))
          (sym (map_same (written w) (rows_of es) (λ row h. ap (λ b. cond b (row_of (k, w)) row) (missing_below k.client k.kind (row_of e) (rows_of es) apart is row h))))
      at false other ih =
          ap₂ (λ a l. a ∷ l) (sym (ap (λ b. cond b (row_of (k, w)) (row_of e)) (sym (agree e.0) ∙ other))) ih

-- what a map has at each client and kind, after a change at one
module _ (eq : Key → Key → Bool) (agree : (a b : Key) → eq a b ≡ same_lease a.client a.kind b.client b.kind) where
  pub apart_keys : (es : List (Key × Lease)) → IsDistinct eq (keys_of es) → Apart Differ (rows_of es)
  unfolding IsDistinct
  apart_keys [] unique = tt
  apart_keys (e ∷ es) unique = (
    λ z h.
        let i : IsImage row_of es z = image row_of es z h in
        let other : eq e.0 i.from.0 ≡ false = All-contains (λ y. eq e.0 y ≡ false) (keys_of es) i.from.0 (All-from_recursion (λ y. eq e.0 y ≡ false) (keys_of es) unique.0) (Contains-image (λ (e : Key × Lease). e.0) es i.from i.contained) in
        subst (Differ (row_of e)) i.is (sym (agree e.0 i.from.0) ∙ other),
    apart_keys es unique.1,
  )

  pub leases_after : (k : Key) (old new : List (Key × Lease)) (w : Option Lease) → ((q : Key) → lookup (eq q) new ≡ cond (eq k q) w (lookup (eq q) old)) →
      (d : Client) (i : Kind) → lease_of d i (rows_of new) ≡ cond (same_lease k.client k.kind d i) w (lease_of d i (rows_of old))
  leases_after k old new w get d i =
      let q : Key = record { client = d; kind = i } in
      sym (found_is q (eq q) (agree q) new) ∙ get q ∙ ap₂ (λ b o. cond b w o) (agree k q) (found_is q (eq q) (agree q) old)
