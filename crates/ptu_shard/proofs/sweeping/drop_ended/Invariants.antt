use Rattle.std.proofs.Common.{◌≡◌, ◌≤◌, length, nat_lt}
use Rattle.std.specs.{List.{filter}, List.Sorted.{IsPermutation}}
use Rattle.ptu_shard.specs.{Fields.{rows_of}, Queue.{HasEnds}, Row.{IsDistinctByLease, share_of}}
use Rattle.ptu_shard.specs.declared.lease.Row.{Row}
use Rattle.indexmap.specs.IndexMap.{spare}
use Rattle.ptu_shard.proofs.sweeping.drop_ended.Given as goal

abbrev pub invariant-loop-entry : goal.invariant-loop-entry
invariant-loop-entry l = record {
  rows : IsPermutation (filter (λ (row : Row). nat_lt l.at row.lease.until) (rows_of l.initial.rows.entries)) (filter (λ (row : Row). nat_lt l.at row.lease.until) (rows_of l.rows.entries));
  share : l.share ≡ share_of (rows_of l.rows.entries);
  over : HasEnds (rows_of l.rows.entries) l.ends.entries;
  distinct : IsDistinctByLease (rows_of l.rows.entries);
  count : length l.rows.entries ≤ length l.initial.rows.entries;
  spare : spare l.initial.rows ≤ spare l.rows;
  capacity : l.ends.capacity ≡ l.initial.ends.capacity;
}

abbrev pub decreases-loop-entry : goal.decreases-loop-entry
decreases-loop-entry l = length l.ends.entries
