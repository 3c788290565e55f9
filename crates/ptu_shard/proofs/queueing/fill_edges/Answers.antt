use Rattle.std.proofs.Common.{◌≡◌, ◌∙◌, sym, arith, true, subst}
use Rattle.std.specs.List.{Contains}
use Rattle.std.proofs.lemmas.{Bool.{true≢false}, List.{length-map, take_all}}
use Rattle.std.proofs.lemmas.List.Sorted.{length_permutation}
use Rattle.ptu_history.specs.Turns.{is_turned}
use Rattle.ptu_shard.specs.{Fields.{row_of, rows_of}, Queue.{edge_entry}, declared.lease.Row.{Row}}
use Rattle.ptu_shard.proofs.Filling.{filled, none_within, passed}
use Rattle.ptu_shard.proofs.queueing.fill_edges.Goals as goal
use Rattle.ptu_shard.proofs.queueing.fill_edges.Goals.{in-Some+then-is_turned, in-Some+else-is_turned, in_default}

pub loop-index-preserved : goal.loop-index-preserved
loop-index-preserved c =
    let inv = c.loop-index.invariant in
    let rows = rows_of c.args.rows.now.entries in
    let P = λ (row : Row). is_turned row.kind ≡ true in
    elim c.match-row_at.branch [
      | in-Some+then-is_turned w ↦
          rw w.edges-is (record {
            all = filled edge_entry P rows c.loop-index.index w.in-Some.row (sym w.in-Some.ensures) c.loop-index.edges.entries inv.all w.push.new.self.entries w.edge_of.result w.edge_of.ensures w.push.ensures.entries;
            many = omega (arith, inv.many, length_permutation _ _ w.push.ensures.entries);
            capacity = omega (arith, inv.capacity, w.push.ensures.capacity);
          })
      | in-Some+else-is_turned w ↦
          rw w.edges-is (record {
            all = passed edge_entry P rows c.loop-index.index w.in-Some.row (sym w.in-Some.ensures) c.loop-index.edges.entries inv.all (λ yes. true≢false (sym yes ∙ sym w.is_turned.ensures ∙ w.if-is_turned.false));
            many = omega (arith, inv.many);
            capacity = inv.capacity;
          })
      | in_default w ↦
          absurd (none_within rows c.loop-index.index (omega (arith, c.loop-index-test.true, c.len-index-end.ensures.len, length-map c.args.rows.now.entries row_of)) (sym w.in_default.ensures))
    ]

pub returns-clause-all : goal.returns-clause-all
returns-clause-all c =
    subst (λ l. (row : Row) → Contains l row → is_turned row.kind ≡ true → Contains c.loop-index.edges.entries (edge_entry row))
    (take_all c.loop-index.index (rows_of c.args.rows.now.entries) (omega (arith, c.loop-index-test.false, c.len-index-end.ensures.len, length-map c.args.rows.now.entries row_of))) c.loop-index.invariant.all
