use Rattle.std.proofs.Common.{◌≤◌, length, take}
use Rattle.ptu_shard.specs.{Fields.{rows_of}, Queue.{HasEnds}}
use Rattle.ptu_shard.proofs.queueing.fill_ends.Given as goal

abbrev pub invariant-loop-index : goal.invariant-loop-index
invariant-loop-index l = record {
  all : HasEnds (take l.index (rows_of l.rows.entries)) l.ends.entries;
  many : length l.ends.entries ≤ l.index;
  capacity : l.fn.ends.capacity ≤ l.ends.capacity;
}
