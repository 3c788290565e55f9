use Rattle.std.proofs.Common.{◌≡◌, ◌≤◌, length}
use Rattle.ptu_shard.specs.{Fields.{rows_of}, Queue.{HasEdges}}
use Rattle.indexmap.specs.IndexMap.{spare}
use Rattle.ptu_shard.proofs.turning.next_due.Given as goal

abbrev pub invariant-loop-entry : goal.invariant-loop-entry
invariant-loop-entry l = record {
  rows : rows_of l.rows.entries ≡ rows_of l.initial.rows.entries;
  edges : HasEdges l.at (rows_of l.initial.rows.entries) l.edges.entries;
  spare : spare l.rows ≡ spare l.initial.rows;
  capacity : l.initial.edges.capacity ≤ l.edges.capacity;
}

abbrev pub decreases-loop-entry : goal.decreases-loop-entry
decreases-loop-entry l = length l.edges.entries
