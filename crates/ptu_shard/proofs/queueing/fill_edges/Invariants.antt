use Rattle.std.proofs.Common.{◌≡◌, ◌≤◌, length, take, true}
use Rattle.std.specs.List.{Contains}
use Rattle.ptu_history.specs.Turns.{is_turned}
use Rattle.ptu_shard.specs.{Fields.{rows_of}, Queue.{edge_entry}, declared.lease.Row.{Row}}
use Rattle.ptu_shard.proofs.queueing.fill_edges.Given as goal

abbrev pub invariant-loop-index : goal.invariant-loop-index
invariant-loop-index l = record {
  all : (row : Row) → Contains (take l.index (rows_of l.rows.entries)) row → is_turned row.kind ≡ true → Contains l.edges.entries (edge_entry row);
  many : length l.edges.entries ≤ l.index;
  capacity : l.fn.edges.capacity ≤ l.edges.capacity;
}
