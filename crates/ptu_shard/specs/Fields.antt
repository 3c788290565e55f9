-- How a table keeps its rows: leases by client and kind, and two queues of moments.
use Rattle.std.specs.Prelude.{◌≡◌, ℕ, ◌+◌, ◌*◌, ◌≤◌, List, map, length}
use Rattle.ptu_shard.specs.declared.{lease.Lease.{Lease}, lease.Row.{Row}, rows.Key.{Key}}
use Rattle.ptu_shard.specs.{Queue.{HasEdges, HasEnds, Queued}, Row.{IsDistinctByLease, share_of}}

-- a row, of a lease by its client and kind
abbrev pub row_of : Key × Lease → Row
row_of e = record { client = e.0.client; kind = e.0.kind; lease = e.1 }

abbrev pub rows_of : List (Key × Lease) → List Row
rows_of entries = map row_of entries

-- what the fields of a table say of its rows: `share` is their sum of rates, each that is due or over at some moment has
-- its entry in the queue, and for as many rows as `room` there is room without memory, twice that in the queues
pub record AreFields (rows : List Row) (spare share moment room : ℕ) (edges ends : Queued) : Type 0 where
  pub distinct : IsDistinctByLease rows
  pub held : share ≡ share_of rows
  pub due : HasEdges moment rows edges.entries
  pub over : HasEnds rows ends.entries
  pub within : length rows ≤ room
  pub fits : room ≤ length rows + spare
  pub edge_room : 2 * room ≤ edges.capacity
  pub end_room : 2 * room ≤ ends.capacity
