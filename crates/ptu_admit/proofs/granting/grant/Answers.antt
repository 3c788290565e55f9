use Rattle.std.proofs.Common.{◌≡◌, ◌∙◌, ◌<◌, ◌++◌, ◌∷◌, [], max, ap, arith, ltb, not, subst, sym}
use Rattle.std.specs.List.{Contains}
use Rattle.std.proofs.lemmas.{Bool.{ltb-true}, List.Sums.{sum_by-cons}}
use Rattle.ptu_units.specs.Log.{rate_of}
use Rattle.ptu_history.specs.History.{Granted}
use Rattle.ptu_history.proofs.Unique.{Contains-from_filter}
use Rattle.ptu_shard.specs.{declared.lease.Row.{Row}, Row.{is_row_of, lease_of, without_row}}
use Rattle.ptu_shard.specs.Table.{IsLeaseOf, StandsAt}
use Rattle.ptu_shard.proofs.RowLists.{same_permuted}
use Rattle.ptu_admit.specs.Rows.{live_rows}
use Rattle.ptu_admit.proofs.Grants.{without_live-le}
use Rattle.ptu_admit.proofs.Leasing.{Follows, follows_from, lease_granted}
use Rattle.ptu_admit.proofs.Sums.{row_rate, share_of-filter-permuted, share_of-left, share_of-permuted, share_of-without-le}
use Rattle.ptu_admit.proofs.granting.grant.Goals as goal

pub put-requires-clause-sum : goal.put-requires-clause-sum
put-requires-clause-sum g c =
    omega (
      arith,
      share_of-left (λ row. ltb c.args.at row.lease.until) c.args.shard.now.rows c.sweep.new.self.rows c.sweep.ensures.rows,
      ap rate_of c.next_lease.ensures.granted.1,
      c.requires,
    )

pub settle-requires-clause-fits : goal.settle-requires-clause-fits
settle-requires-clause-fits g c =
    let client = c.args.client.now in
    let kind = c.args.wanted.kind in
    let row : Row = record { client = client; kind = kind; lease = c.next_lease.result } in
    let live = live_rows c.args.at c.args.shard.now.rows in
    omega (
      arith,
      c.held.ensures.share,
      c.held-before.ensures.share,
      share_of-permuted (row ∷ without_row client kind c.sweep.new.self.rows) c.put.new.self.rows c.put.ensures.rows,
      sum_by-cons row_rate row (without_row client kind c.sweep.new.self.rows),
      share_of-filter-permuted (λ row. not (is_row_of client kind row)) live c.sweep.new.self.rows c.sweep.ensures.rows,
      without_live-le client kind c.args.at c.args.shard.now.rows,
      share_of-without-le client kind c.args.shard.now.rows,
      ap rate_of c.next_lease.ensures.granted.1,
      c.requires,
    )

pub returns-clause-stands : goal.returns-clause-stands
returns-clause-stands g c = λ b j history s own le.
    let n = c.args.at in
    let client = c.args.client.now in
    let kind = c.args.wanted.kind in
    let lease = c.next_lease.result in
    let rows = c.sweep.new.self.rows in
    let top : max b n ≡ n = omega arith in
    let swept : StandsAt (max b n) j rows c.sweep.new.self.moment history = c.sweep.ensures.stands b j history s in
    let now : StandsAt n j rows c.sweep.new.self.moment history = subst (λ m. StandsAt m j rows c.sweep.new.self.moment history) top swept in
    let lasts : (row : Row) → Contains rows row → n < row.lease.until = λ row h.
    ltb-true n row.lease.until (Contains-from_filter (λ (row : Row). ltb n row.lease.until) c.args.shard.now.rows row ((same_permuted (live_rows n c.args.shard.now.rows) rows c.sweep.ensures.rows).from row h)).1 in
    let u = c.new.result.until in
    let l = c.args.wanted.log in
    let until_is : lease.until ≡ u = c.next_lease.ensures.granted.2 ∙ sym (ap (λ t. t.until) c.new.ensures) in
    let former : Follows c.lease-former.result n l u lease =
    follows_from c.lease-former.result n l u lease (c.next_lease.ensures.granted.0, c.next_lease.ensures.granted.1, until_is) c.next_lease.ensures.fresh c.next_lease.ensures.renewed in
    let follows : Follows (lease_of client kind rows) n l u lease = subst (λ o. Follows o n l u lease) c.lease-former.ensures former in
    let is : IsLeaseOf (history ++ Granted n client kind l u ∷ []) client kind lease =
    lease_granted n j c.sweep.new.self.moment n rows history now (omega arith) lasts client kind l u lease own follows in
    let one : Granted lease.start client kind lease.log lease.until ≡ Granted n client kind l u =
    ap (λ m. Granted m client kind lease.log lease.until) c.next_lease.ensures.granted.0
    ∙ ap (λ z. Granted n client kind z lease.until) c.next_lease.ensures.granted.1
    ∙ ap (λ m. Granted n client kind l m) until_is in
    subst (λ r. StandsAt n j c.put.new.self.rows c.put.new.self.moment (history ++ r ∷ [])) one
    (c.put.ensures.stands n j history now own
    (let start : lease.start ≡ n = c.next_lease.ensures.granted.0 in omega (arith, c.sweep.ensures.moment))
    (subst (λ r. IsLeaseOf (history ++ r ∷ []) client kind lease) (sym one) is))
