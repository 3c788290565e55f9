use Rattle.std.proofs.Common.{◌≡◌, ◌+◌, ◌≤◌, ◌++◌, map, take}
use Rattle.std.specs.Prelude.{vec_capacity, vec_len}
use Rattle.ptu_admit.specs.Newest.{candidate_of, found_in}
use Rattle.ptu_admit.proofs.gathering.list_rows.Given as goal

-- the rows so far stand behind what was listed
abbrev pub invariant-loop-index : goal.invariant-loop-index
invariant-loop-index g l = record {
  items : l.list.items ≡ l.initial.list.items ++ map candidate_of (map (found_in l.table) (take l.index l.shard.rows));
  len : vec_len l.list ≡ vec_len l.initial.list + l.index;
  capacity : vec_capacity l.initial.list ≤ vec_capacity l.list;
}
