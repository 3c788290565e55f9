use Rattle.std.proofs.Common.{◌∙◌, sym}
use Rattle.ptu_shard.specs.Fields.{rows_of}
use Rattle.ptu_shard.proofs.Keeping.{edges_put, edges_stay, ends_put}
use Rattle.ptu_shard.proofs.queueing.keep_row.Goals as goal
use Rattle.ptu_shard.proofs.queueing.keep_row.Goals.{then-not-is_kept, else-not-is_kept}

pub returns-clause-edges : goal.returns-clause-edges
returns-clause-edges c = elim c.if-not-is_kept.branch [
  | then-not-is_kept w ↦
      rw w.edges-is
      (edges_put c.args.row (rows_of c.args.rows.now.entries) (rows_of c.put_row-replaced.new.rows.entries) c.put_row-replaced.ensures.rows c.args.edges.now.entries w.put_edge.new.edges.entries
      w.put_edge.ensures.own w.put_edge.ensures.kept c.args.at)
  | else-not-is_kept w ↦
      rw w.edges-is
      (edges_stay c.args.row (rows_of c.args.rows.now.entries) (rows_of c.put_row-replaced.new.rows.entries) c.put_row-replaced.ensures.rows c.args.edges.now.entries c.args.at
      c.put_row-replaced.result c.put_row-replaced.ensures.replaced (sym c.is_kept.ensures ∙ w.if-not-is_kept.false))
]

pub returns-clause-ends : goal.returns-clause-ends
returns-clause-ends c =
    ends_put c.args.row (rows_of c.args.rows.now.entries) (rows_of c.put_row-replaced.new.rows.entries) c.put_row-replaced.ensures.rows c.args.ends.now.entries c.put_end.new.ends.entries
    c.put_end.ensures.own c.put_end.ensures.kept
