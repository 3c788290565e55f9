use Rattle.std.proofs.Common.{rules, ◌∙◌, ◌∷◌, drop, length, sym, ap, subst, arith}
use Rattle.std.specs.{List.{AllPairs, Contains}, List.Sorted.{IsPermutation}}
use Rattle.std.proofs.lemmas.List.Sorted.{length_permutation}
use Rattle.ptu_shard.specs.{Fields.{rows_of}, Queue.{HasEdges, edge_entry}, Row.{is_row_of}}
use Rattle.ptu_shard.specs.Turn.{due_rows, is_due_row, spent_where}
use Rattle.ptu_shard.proofs.RowLists.{Differ}
use Rattle.ptu_shard.proofs.Dues.{due_first, edges_after, least_first, none_due, spent_after, stale, taken_first}
use Rattle.ptu_shard.proofs.turning.next_due.Goals as goal

pub replace_first-requires : goal.replace_first-requires
replace_first-requires c = omega (arith, ap length c.in-Some.ensures.first)

pub returns-in-Some-spend_due : goal.returns-in-Some-spend_due
returns-in-Some-spend_due c =
    let rows = rows_of c.args.rows.now.entries in
    let r = c.in-Some-spend_due.row in
    let inv = c.loop-entry.invariant in
    let h = c.in-Some-spend_due.ensures in
    let kept : Contains rows r = subst (λ l. Contains l r) inv.rows h.due.0 in
    let pairs : AllPairs Differ rows = subst (AllPairs Differ) inv.rows h.distinct in
    let spent = h.spent ∙ ap (spent_where (is_row_of r.client r.kind) c.args.at) inv.rows in
    let behind = drop 1 c.loop-entry.edges.entries in
    let first = taken_first c.loop-entry.edges.entries c.in-Some.entry c.in-Some.ensures.first in
    let put = subst (λ e. IsPermutation (e ∷ behind) c.replace_first.new.self.entries) (c.edge_of.ensures ∙ ap edge_entry c.spent.ensures.row) c.replace_first.ensures.entries in
    record {
      due = due_first c.args.at rows pairs r kept h.due.2 h.later c.loop-entry.edges.entries behind c.in-Some.entry inv.edges first h.due.1 (least_first c.loop-entry.edges.entries c.in-Some.entry c.in-Some.ensures.least)
          ∙ ap (λ l. r ∷ due_rows c.args.at l) (sym spent);
      turned = search rules;
      none = tt;
      same = tt;
      spent = ap (spent_where (is_due_row c.args.at) c.args.at) spent ∙ spent_after c.args.at rows pairs r kept h.due.2 h.later;
      edges = subst (λ l. HasEdges c.args.at l c.replace_first.new.self.entries) (sym spent)
          (edges_after c.args.at rows pairs r kept h.due.2 h.later c.loop-entry.edges.entries behind c.in-Some.entry inv.edges first h.due.1 c.replace_first.new.self.entries put);
      spare = h.spare ∙ inv.spare;
      capacity = search rules;
    }

pub loop-entry-smaller : goal.loop-entry-smaller
loop-entry-smaller c =
    omega (arith, length_permutation c.loop-entry.edges.entries (c.in-Some.entry ∷ c.drop_first.new.self.entries) (c.drop_first.ensures.dropped c.in-Some.entry c.in-Some.ensures.first))

pub loop-entry-preserved : goal.loop-entry-preserved
loop-entry-preserved c =
    let rows = rows_of c.args.rows.now.entries in
    let inv = c.loop-entry.invariant in
    let h = c.in_default-spend_due.ensures in
    record {
      rows = h.same ∙ inv.rows;
      edges = stale c.args.at rows c.loop-entry.edges.entries c.drop_first.new.self.entries c.in-Some.entry inv.edges (c.drop_first.ensures.dropped c.in-Some.entry c.in-Some.ensures.first) c.in-Some.ensures.reached
          (λ z k same. h.none z (subst (λ l. Contains l z) (sym inv.rows) k) same);
      spare = h.spare ∙ inv.spare;
      capacity = omega (arith, inv.capacity, c.drop_first.ensures.capacity);
    }

pub returns-clause-none : goal.returns-clause-none
returns-clause-none c = none_due c.args.at (rows_of c.args.rows.now.entries) c.loop-entry.edges.entries c.loop-entry.invariant.edges c.in_default.ensures.later
