-- Rows in the order of sending: a list of rows without two of one client and kind has one such order.
use Rattle.std.proofs.Common.{◌≡◌, ◌∙◌, ℕ, zero, suc, ◌+◌, ◌≤◌, List, [], ◌∷◌, Bool, true, false, ◌&&◌, cond, eqb, refl, sym, ap, arith}
use Rattle.std.specs.{Cmp.{IsTotalOrder}, Ordering.{nat_cmp, ordering_then}}
use Rattle.std.specs.{declared.cmp.Ordering.TheVariants.{Equal}, List.{AllPairs, Contains, sum_by}}
use Rattle.std.specs.List.Sorted.{IsPermutation}
use Rattle.std.proofs.lemmas.Bool.{false_from_ne_true, true≢false, and_from}
use Rattle.std.proofs.lemmas.Cmp.{nat_cmp_total, on_total, then_total}
use Rattle.std.proofs.lemmas.List.{Sorted.{sum_by-IsPermutation}, Sums.{sum_by-cons}}
use Rattle.ptu_units.specs.declared.{client.Client.{Client}, kind.Kind.{Kind}}
use Rattle.ptu_units.specs.Client.{client_cmp, kind_cmp, kind_place, same_client, same_kind, same_lease}
use Rattle.ptu_units.proofs.Keys.{same_lease-refl, same_lease-true}
use Rattle.ptu_history.proofs.Unique.{Apart, Apart-from_pairs, Contains-first, Contains-later, pairs_from_Apart}
use Rattle.ptu_shard.specs.{declared.lease.Row.{Row}, Row.{is_row_of}, Turn.{row_cmp}}
use Rattle.ptu_shard.proofs.RowLists.{Differ}
use Rattle.ptu_history.proofs.Orders.{nat_tie, then_parts}
use Rattle.ptu_history.proofs.Order.{client_cmp-total, kind_cmp-total}

-- how many rows there are of a client and kind
abbrev copies : Client → Kind → List Row → ℕ
copies c k rows = sum_by (λ row. cond (is_row_of c k row) 1 0) rows

copies-cons : (c : Client) (k : Kind) (x : Row) (xs : List Row) → copies c k (x ∷ xs) ≡ cond (is_row_of c k x) 1 0 + copies c k xs
copies-cons c k x xs = sum_by-cons (λ row. cond (is_row_of c k row) 1 0) x xs

copies_none : (c : Client) (k : Kind) (xs : List Row) → ((z : Row) → Contains xs z → is_row_of c k z ≡ false) → copies c k xs ≡ 0
copies_none c k [] none = refl
copies_none c k (x ∷ xs) none =
    copies-cons c k x xs ∙ ap (λ b. cond b 1 0 + copies c k xs) (none x (Contains-first x xs))
    ∙ (let rest : copies c k xs ≡ 0 = copies_none c k xs (λ z h. none z (Contains-later x xs z h)) in omega arith)

copies_some : (c : Client) (k : Kind) (xs : List Row) (z : Row) → Contains xs z → is_row_of c k z ≡ true → 1 ≤ copies c k xs
copies_some c k [] z (i, lt, e) own = absurd (omega arith)
copies_some c k (x ∷ xs) z (zero, lt, e) own =
    let first : ◌≡◌ {A = ℕ} (cond (is_row_of c k x) 1 0) 1 = ap (λ row. cond (is_row_of c k row) 1 0) e ∙ ap (λ b. cond b 1 0) own in
    omega (arith, copies-cons c k x xs, first)
copies_some c k (x ∷ xs) z (suc i, lt, e) own =
    let rest : 1 ≤ copies c k xs = copies_some c k xs z (i, omega arith, e) own in
    omega (arith, copies-cons c k x xs, rest)

once_from_apart : (rows : List Row) → Apart Differ rows → (c : Client) (k : Kind) → copies c k rows ≤ 1
once_from_apart [] apart c k = omega arith
once_from_apart (x ∷ xs) apart c k = at (is_row_of c k x) refl (once_from_apart xs apart.1 c k)
  where
    at : (b : Bool) → is_row_of c k x ≡ b → copies c k xs ≤ 1 → copies c k (x ∷ xs) ≤ 1
    at true own ih =
        let same = same_lease-true c k x.client x.kind own in
        let c_is : c ≡ x.client = same.0 in
        let k_is : k ≡ x.kind = same.1 in
        let none : copies c k xs ≡ 0 = copies_none c k xs (λ z h.
        ap (λ d. same_lease d k z.client z.kind) c_is ∙ ap (λ j. same_lease x.client j z.client z.kind) k_is ∙ apart.0 z h) in
        let first : ◌≡◌ {A = ℕ} (cond (is_row_of c k x) 1 0) 1 = ap (λ b. cond b 1 0) own in
        omega (arith, copies-cons c k x xs, first)
    at false own ih =
        let first : ◌≡◌ {A = ℕ} (cond (is_row_of c k x) 1 0) 0 = ap (λ b. cond b 1 0) own in
        omega (arith, copies-cons c k x xs, first)

apart_from_once : (rows : List Row) → ((c : Client) (k : Kind) → copies c k rows ≤ 1) → Apart Differ rows
apart_from_once [] once = tt
apart_from_once (x ∷ xs) once = (
  λ z h. false_from_ne_true (is_row_of x.client x.kind z) (λ own.
      let one : 1 ≤ copies x.client x.kind xs = copies_some x.client x.kind xs z h own in
      let first : ◌≡◌ {A = ℕ} (cond (is_row_of x.client x.kind x) 1 0) 1 = ap (λ b. cond b 1 0) (same_lease-refl x.client x.kind) in
      absurd (omega (arith, copies-cons x.client x.kind x xs, first, once x.client x.kind))),
  apart_from_once xs (λ c k. omega (arith, copies-cons c k x xs, once c k)),
)

-- it does not matter in which order they stand
pub distinct_permuted : (xs ys : List Row) → IsPermutation xs ys → AllPairs Differ xs → AllPairs Differ ys
distinct_permuted xs ys h pairs =
    pairs_from_Apart Differ ys (apart_from_once ys (λ c k.
    let one : copies c k ys ≡ copies c k xs = sum_by-IsPermutation (λ row. cond (is_row_of c k row) 1 0) xs ys h in
    omega (arith, once_from_apart xs (Apart-from_pairs Differ xs pairs) c k)))

pub row_cmp-total : IsTotalOrder row_cmp
row_cmp-total =
    then_total (on_total (λ (row : Row). row.lease.edge) nat_cmp_total)
    (then_total (on_total (λ (row : Row). row.client) client_cmp-total) (on_total (λ (row : Row). row.kind) kind_cmp-total))

pub row_cmp-differ : (a b : Row) → Differ a b → row_cmp a b ≡ Equal → ⊥
row_cmp-differ a b differ e =
    let rest = (then_parts (nat_cmp a.lease.edge b.lease.edge) (ordering_then (client_cmp a.client b.client) (kind_cmp a.kind b.kind)) e).1 in
    let keys = then_parts (client_cmp a.client b.client) (kind_cmp a.kind b.kind) rest in
    let ip = then_parts (nat_cmp a.client.ip b.client.ip) (ordering_then (nat_cmp a.client.clock b.client.clock) (nat_cmp a.client.port b.client.port)) keys.0 in
    let clock = then_parts (nat_cmp a.client.clock b.client.clock) (nat_cmp a.client.port b.client.port) ip.1 in
    true≢false (sym (and_from (same_client a.client b.client) (same_kind a.kind b.kind)
    (and_from (eqb a.client.ip b.client.ip && eqb a.client.clock b.client.clock) (eqb a.client.port b.client.port)
    (and_from (eqb a.client.ip b.client.ip) (eqb a.client.clock b.client.clock) (nat_tie a.client.ip b.client.ip ip.0) (nat_tie a.client.clock b.client.clock clock.0))
    (nat_tie a.client.port b.client.port clock.1))
    (nat_tie (kind_place a.kind) (kind_place b.kind) keys.1)) ∙ differ)
