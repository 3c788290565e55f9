use Rattle.std.proofs.Common.{◌-◌, ◌<◌, length, arith, ◌∷◌, [], ◌++◌, refl}
use Rattle.std.proofs.lemmas.List.{length-map}
use Rattle.ptu_history.specs.History.{Granted}
use Rattle.ptu_shard.specs.{Fields.{row_of, rows_of}, Row.{without_row}, declared.lease.Row.{Row}}
use Rattle.ptu_shard.proofs.{RowLists.{same_permuted}, Standing.{stands_granted, stands_same}}
use Rattle.ptu_shard.proofs.shard.Shard.put.Goals as goal

pub invariant_of-self : goal.invariant_of-self
invariant_of-self g c =
    let inv = c.self.invariant in
    let h = c.keep_row-replaced.ensures in
    let many = length-map c.self.inside.rows.entries row_of in
    let more = length-map c.keep_row-replaced.new.rows.entries row_of in
    let free : 0 < c.self.inside.room - length c.self.inside.rows.entries = rw (← c.self.view_is) at c.requires.room in
    record {
      distinct = h.distinct;
      held = omega (arith, inv.held, h.share, c.rate-added.ensures.rate);
      due = h.edges inv.due;
      over = h.ends inv.over;
      within = omega (arith, free, inv.within, inv.fits, h.count, h.bound, h.spare, c.capacity.ensures, c.min-self-inside.ensures, many, more);
      fits = omega (arith, c.capacity.ensures, c.min-self-inside.ensures, more);
      edge_room = omega (arith, inv.edge_room, h.edge_capacity, c.min-self-inside.ensures);
      end_room = omega (arith, inv.end_room, h.end_capacity, c.min-self-inside.ensures);
    }

pub returns-clause-stands : goal.returns-clause-stands
returns-clause-stands g c = λ book j history s own reached is_lease.
    let row : Row = record { client = c.args.client; kind = c.args.kind; lease = c.args.lease } in
    let old = rows_of c.self.inside.rows.entries in
    let after = history ++ Granted c.args.lease.start c.args.client c.args.kind c.args.lease.log c.args.lease.until ∷ [] in
    stands_same book j c.self.inside.moment after (row ∷ without_row c.args.client c.args.kind old) (rows_of c.keep_row-replaced.new.rows.entries)
    (same_permuted _ _ c.keep_row-replaced.ensures.rows)
    (stands_granted book j c.self.inside.moment history old (rw (← c.self.view_is) at s) c.args.client c.args.kind
    (Granted c.args.lease.start c.args.client c.args.kind c.args.lease.log c.args.lease.until)
    (λ d i. refl) refl (rw (← c.self.view_is) at reached) c.args.lease own is_lease)
