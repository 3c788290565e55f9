use Rattle.std.proofs.Common.{◌≡◌, ◌∙◌, sym, ap, arith, Some, None, refl}
use Rattle.ptu_history.proofs.Unique.{pairs_from_Apart}
use Rattle.ptu_shard.specs.{Fields.{rows_of}, declared.lease.Lease.{Lease}}
use Rattle.ptu_shard.proofs.{RowLists.{Differ}, Keyed.{apart_keys}, Keys.{key_eq}}
use Rattle.ptu_shard.proofs.Ends.{left_other, left_same, live_same}
use Rattle.ptu_shard.proofs.rows.drop_over.Goals as goal

pub returns-in_default-clause-distinct : goal.returns-in_default-clause-distinct
returns-in_default-clause-distinct c = pairs_from_Apart Differ _ (apart_keys _ key_eq c.args.rows.now.entries c.len-count.ensures.unique)

pub returns-in_default-clause-left : goal.returns-in_default-clause-left
returns-in_default-clause-left c =
    left_same c.args.at (rows_of c.args.rows.now.entries) (returns-in_default-clause-distinct c) c.args.entry c.requires
    (λ lease found. absurd (let e : None ≡ Some lease = c.in_default.ensures ∙ found in cc))

pub returns-then-nanos-lease-clause-distinct : goal.returns-then-nanos-lease-clause-distinct
returns-then-nanos-lease-clause-distinct c = pairs_from_Apart Differ _ (apart_keys _ key_eq c.args.rows.now.entries c.len-count.ensures.unique)

pub returns-then-nanos-lease-clause-left : goal.returns-then-nanos-lease-clause-left
returns-then-nanos-lease-clause-left c =
    left_same c.args.at (rows_of c.args.rows.now.entries) (returns-then-nanos-lease-clause-distinct c) c.args.entry c.requires
    (λ lease found.
    let e : Some c.in-Some.lease ≡ Some lease = c.in-Some.ensures ∙ found in
    let l : c.in-Some.lease ≡ lease = cc in
    let u = ap (λ (l : Lease). l.until) l in
    omega (arith, u, c.if-nanos-lease.true, c.nanos.ensures.value))

pub returns-clause-live : goal.returns-clause-live
returns-clause-live c =
    live_same c.args.at c.args.entry.client c.args.entry.kind (rows_of c.args.rows.now.entries) (rows_of c.drop_row.new.rows.entries)
    (pairs_from_Apart Differ _ (apart_keys _ key_eq c.args.rows.now.entries c.len-count.ensures.unique)) c.drop_row.ensures.rows c.in-Some.lease (sym c.in-Some.ensures)
    (omega (arith, c.if-nanos-lease.false, c.nanos.ensures.value))

pub returns-clause-left : goal.returns-clause-left
returns-clause-left c =
    left_other c.args.at c.args.entry.client c.args.entry.kind (rows_of c.args.rows.now.entries) (rows_of c.drop_row.new.rows.entries)
    (pairs_from_Apart Differ _ (apart_keys _ key_eq c.args.rows.now.entries c.len-count.ensures.unique)) c.drop_row.ensures.rows c.args.entry refl refl
