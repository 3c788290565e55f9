use Rattle.std.proofs.Common.{◌≡◌, ◌∙◌, ◌+◌, ◌-◌, ap, arith, not, refl, sym, Bool, true, false, ℕ, [], ◌∷◌}
use Rattle.ptu_admit.specs.Newest.{grant_of}
use Rattle.std.proofs.lemmas.List.Sorted.{length_permutation}
use Rattle.ptu_units.specs.Log.{rate_of}
use Rattle.ptu_units.proofs.Keys.{same_lease-refl}
use Rattle.ptu_history.proofs.Unique.{Contains-from_filter}
use Rattle.ptu_shard.specs.Row.{is_row_of, without_row}
use Rattle.ptu_shard.proofs.RowLists.{same_permuted}
use Rattle.ptu_admit.proofs.RowKeys.{kept_rate-member, length-filter-lt}
use Rattle.ptu_admit.proofs.Sums.{share_of-permuted, share_of-removed, share_of-without}
use Rattle.ptu_admit.proofs.shedding.drop_in.Goals as goal

pub settle-requires-clause-fits : goal.settle-requires-clause-fits
settle-requires-clause-fits g c = omega (arith, c.held.ensures.share, c.held-before.ensures.share, share_of-removed c.args.row.now.client c.args.row.now.kind c.args.shard.now.rows c.remove.new.self.rows c.remove.ensures.rows)

pub returns-clause-thinned : goal.returns-clause-thinned
returns-clause-thinned g c =
    let client = c.args.row.now.client in
    let kind = c.args.row.now.kind in
    record {
      members = λ row h.
          (Contains-from_filter (λ row. not (is_row_of client kind row)) c.args.shard.now.rows row
          ((same_permuted (without_row client kind c.args.shard.now.rows) c.remove.new.self.rows c.remove.ensures.rows).from row h)).0;
      distinct = λ _. c.held.ensures.distinct;
      moment = c.remove.ensures.moment;
      keeps = record { port = c.remove.ensures.port; spare = omega (arith, c.remove.ensures.spare) };
      alone = λ b j n history s le. (grant_of c.args.row.now ∷ [], ((s.kept c.args.row.now c.requires.contained).0, tt), c.remove.ensures.shed b j n history s le);
    }

pub returns-clause-gone : goal.returns-clause-gone
returns-clause-gone g c = λ r h.
    let client = c.args.row.now.client in
    let kind = c.args.row.now.kind in
    not-true (is_row_of client kind r)
    (Contains-from_filter (λ row. not (is_row_of client kind row)) c.args.shard.now.rows r
    ((same_permuted (without_row client kind c.args.shard.now.rows) c.remove.new.self.rows c.remove.ensures.rows).from r h)).1
  where
    not-true : (b : Bool) → not b ≡ true → b ≡ false
    not-true true e = sym e
    not-true false e = refl

pub returns-clause-fewer : goal.returns-clause-fewer
returns-clause-fewer g c =
    let client = c.args.row.now.client in
    let kind = c.args.row.now.kind in
    omega (
      arith,
      length_permutation (without_row client kind c.args.shard.now.rows) c.remove.new.self.rows c.remove.ensures.rows,
      length-filter-lt (λ row. not (is_row_of client kind row)) c.args.shard.now.rows c.args.row.now c.requires.contained (ap not (same_lease-refl client kind)),
    )

pub returns-clause-share : goal.returns-clause-share
returns-clause-share g c =
    omega (
      arith,
      share_of-permuted (without_row c.args.row.now.client c.args.row.now.kind c.args.shard.now.rows) c.remove.new.self.rows c.remove.ensures.rows,
      share_of-without c.args.row.now.client c.args.row.now.kind c.args.shard.now.rows c.held-before.ensures.distinct,
      kept_rate-member c.args.shard.now.rows c.args.row.now c.held-before.ensures.distinct c.requires.contained,
    )

pub returns-clause-book : goal.returns-clause-book
returns-clause-book g c =
    let less : c.args.book.now.total - c.held-before.result + c.held.result ≡ c.args.book.now.total - rate_of c.args.row.now.lease.log =
    omega (arith, returns-clause-share g c, c.held.ensures.share, c.held-before.ensures.share, c.requires.share) in
    c.settle.ensures ∙ ap (λ (t : ℕ). record c.args.book.now { total = t }) less
