-- Rows whose grants are live, one after the other.
use Rattle.std.proofs.Common.{◌≡◌, ◌∙◌, ℕ, zero, suc, ◌+◌, ◌≤◌, ◌++◌, List, [], ◌∷◌, take, slice_get, cond, Some, ap, arith}
use Rattle.std.specs.Prelude.{nat_lt}
use Rattle.std.proofs.lemmas.List.{Elements.{filter-append}, Sums.{sum_by-append, sum_by-cons}}
use Rattle.ptu_units.specs.{declared.kind.Kind.{Kind}, Client.{same_kind}}
use Rattle.ptu_shard.specs.{declared.lease.Row.{Row}, Row.{share_of}}
use Rattle.ptu_shard.proofs.RowLists as row_lists
use Rattle.ptu_admit.specs.{LiveRows.{rows_of_kind}, Rows.{live_rows}}
use Rattle.ptu_admit.proofs.Sums.{row_rate}

pub take_next : (rows : List Row) (i : ℕ) (row : Row) → slice_get rows i ≡ Some row → take (i + 1) rows ≡ take i rows ++ row ∷ []
take_next [] i row is = cc
take_next (x ∷ rows) zero row is = let same : x ≡ row = cc in ap (λ r. r ∷ []) same
take_next (x ∷ rows) (suc i) row is =
    let more : suc i + 1 ≡ suc (i + 1) = omega arith in
    ap (λ n. take n (x ∷ rows)) more ∙ ap (λ rest. x ∷ rest) (take_next rows i row is)

pub live_next : (x : ℕ) (rows : List Row) (i : ℕ) (row : Row) → slice_get rows i ≡ Some row →
    live_rows x (take (i + 1) rows) ≡ live_rows x (take i rows) ++ live_rows x (row ∷ [])
live_next x rows i row is =
    ap (live_rows x) (take_next rows i row is) ∙ filter-append (λ (r : Row). nat_lt x r.lease.until) (take i rows) (row ∷ [])

share_take : (i : ℕ) (rows : List Row) → share_of (take i rows) ≤ share_of rows
share_take zero rows = omega arith
share_take (suc i) [] = omega arith
share_take (suc i) (r ∷ rows) = omega (arith, share_take i rows, sum_by-cons row_rate r rows, sum_by-cons row_rate r (take i rows))

pub share_grow : (x : ℕ) (rows : List Row) (i : ℕ) (row : Row) → slice_get rows i ≡ Some row →
    share_of (live_rows x (take (i + 1) rows)) ≡ share_of (live_rows x (take i rows)) + share_of (live_rows x (row ∷ []))
share_grow x rows i row is =
    ap share_of (live_next x rows i row is) ∙ sum_by-append row_rate (live_rows x (take i rows)) (live_rows x (row ∷ []))

pub share_within : (x i : ℕ) (rows : List Row) → share_of (live_rows x (take i rows)) ≤ share_of rows
share_within x i rows =
    omega (arith, row_lists.share_of-filter-le (λ (r : Row). nat_lt x r.lease.until) (take i rows), share_take i rows)

pub share_next : (x : ℕ) (rows : List Row) (i : ℕ) (row : Row) → slice_get rows i ≡ Some row →
    share_of (live_rows x (take i rows)) + share_of (live_rows x (row ∷ [])) ≤ share_of rows
share_next x rows i row is = omega (arith, share_grow x rows i row is, share_within x (i + 1) rows)

pub kind_next : (k : Kind) (x : ℕ) (rows : List Row) (i : ℕ) (row : Row) → slice_get rows i ≡ Some row →
    rows_of_kind k (live_rows x (take (i + 1) rows)) ≡ rows_of_kind k (live_rows x (take i rows)) + rows_of_kind k (live_rows x (row ∷ []))
kind_next k x rows i row is =
    ap (rows_of_kind k) (live_next x rows i row is)
    ∙ sum_by-append (λ (r : Row). cond (same_kind r.kind k) 1 0) (live_rows x (take i rows)) (live_rows x (row ∷ []))
