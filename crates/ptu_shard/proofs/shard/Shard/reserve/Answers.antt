use Rattle.std.proofs.{Common.{length, sym, ap, arith}, lemmas.List.{length-map}}
use Rattle.ptu_shard.specs.Fields.{row_of, rows_of}
use Rattle.ptu_shard.proofs.Keeping.{kept_more}
use Rattle.ptu_shard.proofs.shard.Shard.reserve.Goals as goal

pub invariant_of-self-in_err-reserve-3 : goal.invariant_of-self-in_err-reserve-3
invariant_of-self-in_err-reserve-3 g c =
    let inv = c.self.invariant in
    kept_more (rows_of c.self.inside.rows.entries) (rows_of c.reserve.new.self.entries) _ _ _ _ _ _ _ _ _ _ inv (sym (ap rows_of c.reserve.ensures.entries)) c.reserve-2.ensures.entries c.reserve-3.ensures.entries
    (omega arith) (omega (arith, inv.fits, c.reserve.ensures.room.0)) (omega (arith, inv.edge_room, c.reserve-2.ensures.capacity)) (omega (arith, inv.end_room, c.reserve-3.ensures.capacity))

pub invariant_of-self-2 : goal.invariant_of-self-2
invariant_of-self-2 g c =
    let inv = c.self.invariant in
    let many = length-map c.self.inside.rows.entries row_of in
    let same = ap length c.reserve.ensures.entries in
    kept_more (rows_of c.self.inside.rows.entries) (rows_of c.reserve.new.self.entries) _ _ _ _ _ _ _ _ _ _ inv (sym (ap rows_of c.reserve.ensures.entries)) c.reserve-2.ensures.entries c.reserve-3.ensures.entries
    (omega (arith, inv.fits, c.capacity-room.ensures, c.reserve.ensures.room.0, many, same)) (omega (arith, c.capacity-room.ensures, many, same))
    (omega (arith, c.in_ok-entries.ensures, c.in_ok-reserve-2.ensures.room)) (omega (arith, c.in_ok-entries.ensures, c.in_ok-reserve-3.ensures.room))
