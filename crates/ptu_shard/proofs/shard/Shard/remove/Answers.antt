use Rattle.std.proofs.{Common.{◌∙◌, sym, arith, refl}, lemmas.List.{length-map}}
use Rattle.ptu_history.specs.History.{Ended, Shed}
use Rattle.ptu_shard.specs.{Fields.{row_of, rows_of}, Row.{without_row}}
use Rattle.ptu_shard.proofs.Keeping.{edges_fewer, ends_fewer, dropped_from}
use Rattle.ptu_shard.proofs.{RowLists.{same_permuted}, Standing.{stands_ended, stands_same}}
use Rattle.ptu_shard.proofs.shard.Shard.remove.Goals as goal

pub invariant_of-self : goal.invariant_of-self
invariant_of-self g c =
    let inv = c.self.invariant in
    let h = c.in_default.ensures in
    let old = rows_of c.self.inside.rows.entries in
    let new = rows_of c.drop_row.new.rows.entries in
    record {
      distinct = h.distinct;
      held = inv.held ∙ sym h.none;
      due = edges_fewer c.self.inside.moment c.self.inside.moment old new c.self.inside.edges.entries (omega arith) inv.due (dropped_from c.args.client.now c.args.kind old new h.rows);
      over = ends_fewer old new c.self.inside.ends.entries inv.over (dropped_from c.args.client.now c.args.kind old new h.rows);
      within = omega (arith, inv.within, h.count, length-map c.self.inside.rows.entries row_of, length-map c.drop_row.new.rows.entries row_of);
      fits = omega (arith, inv.fits, h.spare, h.bound, length-map c.self.inside.rows.entries row_of, length-map c.drop_row.new.rows.entries row_of);
      edge_room = inv.edge_room;
      end_room = inv.end_room;
    }

pub invariant_of-self-2 : goal.invariant_of-self-2
invariant_of-self-2 g c =
    let inv = c.self.invariant in
    let h = c.in-Some.ensures in
    let old = rows_of c.self.inside.rows.entries in
    let new = rows_of c.drop_row.new.rows.entries in
    record {
      distinct = h.distinct;
      held = omega (arith, inv.held, h.share, c.rate.ensures.rate);
      due = edges_fewer c.self.inside.moment c.self.inside.moment old new c.self.inside.edges.entries (omega arith) inv.due (dropped_from c.args.client.now c.args.kind old new h.rows);
      over = ends_fewer old new c.self.inside.ends.entries inv.over (dropped_from c.args.client.now c.args.kind old new h.rows);
      within = omega (arith, inv.within, inv.fits, h.count, h.spare, c.capacity.ensures, c.min-self-inside.ensures, length-map c.self.inside.rows.entries row_of, length-map c.drop_row.new.rows.entries row_of);
      fits = omega (arith, c.capacity.ensures, c.min-self-inside.ensures, length-map c.drop_row.new.rows.entries row_of);
      edge_room = omega (arith, inv.edge_room, c.min-self-inside.ensures);
      end_room = omega (arith, inv.end_room, c.min-self-inside.ensures);
    }

pub returns-in_default-clause-ended : goal.returns-in_default-clause-ended
returns-in_default-clause-ended g c = λ book j n history s reached.
    let old = rows_of c.self.inside.rows.entries in
    stands_same book j c.self.inside.moment _ (without_row c.args.client.now c.args.kind old) (rows_of c.drop_row.new.rows.entries) (same_permuted _ _ c.drop_row.ensures.rows)
    (stands_ended book j c.self.inside.moment history old (rw (← c.self.view_is) at s) c.args.client.now c.args.kind (Ended n c.args.client.now c.args.kind)
    (λ d i. refl) refl (rw (← c.self.view_is) at reached) (λ m d i l u e. cc))

pub returns-in_default-clause-shed : goal.returns-in_default-clause-shed
returns-in_default-clause-shed g c = λ book j n history s reached.
    let old = rows_of c.self.inside.rows.entries in
    stands_same book j c.self.inside.moment _ (without_row c.args.client.now c.args.kind old) (rows_of c.drop_row.new.rows.entries) (same_permuted _ _ c.drop_row.ensures.rows)
    (stands_ended book j c.self.inside.moment history old (rw (← c.self.view_is) at s) c.args.client.now c.args.kind (Shed n c.args.client.now c.args.kind)
    (λ d i. refl) refl (rw (← c.self.view_is) at reached) (λ m d i l u e. cc))

pub returns-clause-ended : goal.returns-clause-ended
returns-clause-ended g c = λ book j n history s reached.
    let old = rows_of c.self.inside.rows.entries in
    stands_same book j c.self.inside.moment _ (without_row c.args.client.now c.args.kind old) (rows_of c.drop_row.new.rows.entries) (same_permuted _ _ c.drop_row.ensures.rows)
    (stands_ended book j c.self.inside.moment history old (rw (← c.self.view_is) at s) c.args.client.now c.args.kind (Ended n c.args.client.now c.args.kind)
    (λ d i. refl) refl (rw (← c.self.view_is) at reached) (λ m d i l u e. cc))

pub returns-clause-shed : goal.returns-clause-shed
returns-clause-shed g c = λ book j n history s reached.
    let old = rows_of c.self.inside.rows.entries in
    stands_same book j c.self.inside.moment _ (without_row c.args.client.now c.args.kind old) (rows_of c.drop_row.new.rows.entries) (same_permuted _ _ c.drop_row.ensures.rows)
    (stands_ended book j c.self.inside.moment history old (rw (← c.self.view_is) at s) c.args.client.now c.args.kind (Shed n c.args.client.now c.args.kind)
    (λ d i. refl) refl (rw (← c.self.view_is) at reached) (λ m d i l u e. cc))
