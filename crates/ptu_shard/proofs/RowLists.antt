-- Members, filters and sums of rows.
use Rattle.std.proofs.Common.{◌≡◌, ◌⊎◌, inl, inr, ◌≤◌, List, [], ◌∷◌, Bool, true, false, not, cond, refl, subst, arith, Option, Some, None}
use Rattle.std.specs.{List.{Contains, filter, find}, List.Sorted.{IsPermutation}}
use Rattle.std.specs.Option.{option_map}
use Rattle.std.proofs.lemmas.{Bool.{true≢false}, List.Filters.{sum_by-filter_both}}
use Rattle.std.proofs.lemmas.List.Sorted.{Contains-permutation, IsPermutation-sym}
use Rattle.ptu_units.specs.{declared.kind.Kind.{Kind}, Log.{rate_of}}
use Rattle.ptu_units.specs.{declared.client.Client.{Client}, Client.{same_lease}}
use Rattle.ptu_history.proofs.Unique.{Contains-cons_cases, Contains-first, Contains-later}
use Rattle.ptu_shard.specs.declared.lease.{Lease.{Lease}, Row.{Row}}
use Rattle.ptu_shard.specs.Row.{is_row_of, lease_of, share_of}

pub share_of-filter-le : (p : Row → Bool) (rows : List Row) → share_of (filter p rows) ≤ share_of rows
share_of-filter-le p rows = omega (arith, sum_by-filter_both p (λ row. not (p row)) (λ _. refl) (λ (row : Row). rate_of row.lease.log) rows)

-- the two rows are of different clients or kinds
abbrev pub Differ : Row → Row → Type 0
Differ a b = same_lease a.client a.kind b.client b.kind ≡ false

-- no row is of the client and kind
abbrev pub IsMissing : Client → Kind → List Row → Type 0
IsMissing c k rows = (row : Row) → Contains rows row → is_row_of c k row ≡ false

pub missing_none : (c : Client) (k : Kind) (rows : List Row) → lease_of c k rows ≡ None → IsMissing c k rows
missing_none c k [] e row (i, lt, h) = absurd (omega arith)
missing_none c k (r ∷ rows) e row h = at (is_row_of c k r) refl e (λ none. missing_none c k rows none) (Contains-cons_cases r rows row h)
  where
    at : (b : Bool) → is_row_of c k r ≡ b → option_map (λ (row : Row). row.lease) (cond b (Some r) (find (is_row_of c k) rows)) ≡ None →
        (lease_of c k rows ≡ None → IsMissing c k rows) → (r ≡ row) ⊎ Contains rows row → is_row_of c k row ≡ false
    at true is none later h = absurd (cc)
    at false is none later (inl same) = subst (λ x. is_row_of c k x ≡ false) same is
    at false is none later (inr h) = later none row h

pub none_missing : (c : Client) (k : Kind) (rows : List Row) → IsMissing c k rows → lease_of c k rows ≡ None
none_missing c k [] missing = refl
none_missing c k (r ∷ rows) missing =
    at (is_row_of c k r) (missing r (Contains-first r rows)) (none_missing c k rows (λ row h. missing row (Contains-later r rows row h)))
  where
    at : (b : Bool) → b ≡ false → lease_of c k rows ≡ None → option_map (λ (row : Row). row.lease) (cond b (Some r) (find (is_row_of c k) rows)) ≡ None
    at true is none = absurd (true≢false is)
    at false is none = none

-- a row that is kept of the client and kind
pub record IsPresent (c : Client) (k : Kind) (rows : List Row) (lease : Lease) : Type 0 where
  pub row : Row
  pub contained : Contains rows row
  pub own : is_row_of c k row ≡ true
  pub lease_is : row.lease ≡ lease

pub present_some : (c : Client) (k : Kind) (rows : List Row) (lease : Lease) → lease_of c k rows ≡ Some lease → IsPresent c k rows lease
present_some c k [] lease e = absurd (cc)
present_some c k (r ∷ rows) lease e = at (is_row_of c k r) refl e (present_some c k rows lease)
  where
    at : (b : Bool) → is_row_of c k r ≡ b → option_map (λ (row : Row). row.lease) (cond b (Some r) (find (is_row_of c k) rows)) ≡ Some lease →
        (lease_of c k rows ≡ Some lease → IsPresent c k rows lease) → IsPresent c k (r ∷ rows) lease
    at true is e later = record { row = r; contained = Contains-first r rows; own = is; lease_is = cc }
    at false is e later =
        let h : IsPresent c k rows lease = later e in
        record { row = h.row; contained = Contains-later r rows h.row h.contained; own = h.own; lease_is = h.lease_is }

pub lease_cases : (o : Option Lease) → (o ≡ None) ⊎ ((lease : Lease) × (o ≡ Some lease))
lease_cases None = inl refl
lease_cases (Some lease) = inr (lease, refl)

-- the two lists have the same members
pub record HasSameMembers (xs ys : List Row) : Type 0 where
  pub to : (row : Row) → Contains xs row → Contains ys row
  pub from : (row : Row) → Contains ys row → Contains xs row

pub same_permuted : (xs ys : List Row) → IsPermutation xs ys → HasSameMembers xs ys
same_permuted xs ys h = record {
  to = λ row. Contains-permutation xs ys row h;
  from = λ row. Contains-permutation ys xs row (IsPermutation-sym xs ys h);
}
