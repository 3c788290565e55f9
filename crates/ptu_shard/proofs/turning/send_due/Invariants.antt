use Rattle.std.proofs.Common.{◌≡◌, ◌≤◌, length}
use Rattle.ptu_shard.specs.{Fields.{rows_of}, Queue.{HasEdges}}
use Rattle.ptu_shard.specs.Turn.{due_rows, is_due_row, spent_where}
use Rattle.indexmap.specs.IndexMap.{spare}
use Rattle.ptu_shard.proofs.SoFar.{HasSent}
use Rattle.ptu_shard.proofs.turning.send_due.Given as goal

abbrev pub invariant-loop-row : goal.invariant-loop-row
invariant-loop-row g l = record {
  sends : HasSent g.P.Port l.fn.config l.at (rows_of l.initial.rows.entries) (rows_of l.rows.entries) l.initial.port l.port l.sends.sent l.sends.failed;
  spent : spent_where (is_due_row l.at) l.at (rows_of l.rows.entries) ≡ spent_where (is_due_row l.at) l.at (rows_of l.initial.rows.entries);
  edges : HasEdges l.at (rows_of l.rows.entries) l.edges.entries;
  spare : spare l.rows ≡ spare l.initial.rows;
  capacity : l.initial.edges.capacity ≤ l.edges.capacity;
}

abbrev pub decreases-loop-row : goal.decreases-loop-row
decreases-loop-row g l = length (due_rows l.at (rows_of l.rows.entries))
