-- The rows of a table: its leases by client and kind.
use Rattle.std.specs.Prelude.{◌≡◌, ℕ, Bool, false, not, List, Option}
use Rattle.std.specs.{List.{AllPairs, filter, find, sum_by}, Option.{option_map, option_map_or}}
use Rattle.ptu_units.specs.{declared.kind.Kind.{Kind}, Log.{rate_of}}
use Rattle.ptu_units.specs.{declared.client.Client.{Client}, Client.{same_lease}}
use Rattle.ptu_shard.specs.declared.lease.{Lease.{Lease}, Row.{Row}}

-- the row is of the client and kind
abbrev pub is_row_of : Client → Kind → Row → Bool
is_row_of c k row = same_lease c k row.client row.kind

-- the rows of other clients and kinds
abbrev pub without_row : Client → Kind → List Row → List Row
without_row c k rows = filter (λ row. not (is_row_of c k row)) rows

-- the lease of the client and kind, where a row has one
abbrev pub lease_of : Client → Kind → List Row → Option Lease
lease_of c k rows = option_map (λ row. row.lease) (find (is_row_of c k) rows)

-- the sum of the rates, in sixteenths of a message per second
abbrev pub share_of : List Row → ℕ
share_of rows = sum_by (λ row. rate_of row.lease.log) rows

-- the rate of a lease, and 0 where there is none
abbrev pub rate_of_lease : Option Lease → ℕ
rate_of_lease lease = option_map_or (λ (l : Lease). rate_of l.log) lease 0

-- no two rows are of one client and kind
abbrev pub IsDistinctByLease : List Row → Type 0
IsDistinctByLease rows = AllPairs (λ a b. same_lease a.client a.kind b.client b.kind ≡ false) rows
