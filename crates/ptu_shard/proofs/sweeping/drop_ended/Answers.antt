use Rattle.std.proofs.Common.{◌∙◌, ◌∷◌, sym, subst, arith, nat_lt}
use Rattle.std.specs.{List.{filter}, List.Sorted.{IsPermutation}}
use Rattle.std.proofs.lemmas.List.Sorted.{IsPermutation-trans, length_permutation}
use Rattle.ptu_shard.specs.{Fields.{rows_of}, Queue.{HasEnds}, declared.lease.Row.{Row}}
use Rattle.ptu_shard.proofs.Ends.{all_live, end_gone}
use Rattle.ptu_shard.proofs.sweeping.drop_ended.Goals as goal

pub loop-entry-preserved : goal.loop-entry-preserved
loop-entry-preserved c =
    let inv = c.loop-entry.invariant in
    let h = c.drop_over-share.ensures in
    record {
      rows = IsPermutation-trans _ _ _ inv.rows h.live;
      share = omega (arith, inv.share, h.share);
      over = end_gone (rows_of c.loop-entry.rows.entries) c.loop-entry.ends.entries c.pop_until.new.self.entries c.in-Some.entry (rows_of c.drop_over-share.new.rows.entries) inv.over c.in-Some.ensures.taken h.left;
      distinct = h.distinct;
      count = omega (arith, inv.count, h.count);
      spare = omega (arith, inv.spare, h.spare);
      capacity = c.in-Some.ensures.capacity ∙ inv.capacity;
    }

pub loop-entry-smaller : goal.loop-entry-smaller
loop-entry-smaller c =
    omega (arith, length_permutation c.loop-entry.ends.entries (c.in-Some.entry ∷ c.pop_until.new.self.entries) c.in-Some.ensures.taken)

pub returns-clause-rows : goal.returns-clause-rows
returns-clause-rows c =
    subst (λ l. IsPermutation (filter (λ (row : Row). nat_lt c.args.at row.lease.until) (rows_of c.args.rows.now.entries)) l)
    (all_live c.args.at (rows_of c.loop-entry.rows.entries) c.loop-entry.ends.entries c.loop-entry.invariant.over c.in_default.ensures.later) c.loop-entry.invariant.rows

pub returns-clause-over : goal.returns-clause-over
returns-clause-over c =
    subst (HasEnds (rows_of c.loop-entry.rows.entries)) (sym c.in_default.ensures.kept) c.loop-entry.invariant.over
