use Rattle.std.proofs.{Common.{sym, arith, subst}, lemmas.List.{length-map, take_all}}
use Rattle.std.proofs.lemmas.List.Sorted.{length_permutation}
use Rattle.ptu_shard.specs.{Fields.{row_of, rows_of}, Queue.{HasEnds, end_entry}}
use Rattle.ptu_shard.specs.declared.lease.Row.{Row}
use Rattle.ptu_shard.proofs.Filling.{filled, none_within}
use Rattle.ptu_shard.proofs.queueing.fill_ends.Goals as goal
use Rattle.ptu_shard.proofs.queueing.fill_ends.Goals.{in-Some, in_default}

pub loop-index-preserved : goal.loop-index-preserved
loop-index-preserved c =
    let inv = c.loop-index.invariant in
    let rows = rows_of c.args.rows.now.entries in
    elim c.match-row_at.branch [
      | in-Some w ↦
          rw w.ends-is (record {
            all = λ z h. filled end_entry (λ (row : Row). Unit {0}) rows c.loop-index.index w.in-Some.row (sym w.in-Some.ensures) c.loop-index.ends.entries (λ z k u. inv.all z k) w.push.new.self.entries w.end_of.result w.end_of.ensures w.push.ensures.entries z h tt;
            many = omega (arith, inv.many, length_permutation _ _ w.push.ensures.entries);
            capacity = omega (arith, inv.capacity, w.push.ensures.capacity);
          })
      | in_default w ↦
          absurd (none_within rows c.loop-index.index (omega (arith, c.loop-index-test.true, c.len-index-end.ensures.len, length-map c.args.rows.now.entries row_of)) (sym w.in_default.ensures))
    ]

pub returns-clause-all : goal.returns-clause-all
returns-clause-all c =
    subst (λ l. HasEnds l c.loop-index.ends.entries)
    (take_all c.loop-index.index (rows_of c.args.rows.now.entries) (omega (arith, c.loop-index-test.false, c.len-index-end.ensures.len, length-map c.args.rows.now.entries row_of))) c.loop-index.invariant.all
