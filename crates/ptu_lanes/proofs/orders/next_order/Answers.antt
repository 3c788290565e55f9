use Rattle.std.proofs.Common.{Some, None, refl, take}
use Rattle.ptu_lanes.proofs.Hearing.{took_failed, took_none, took_one}
use Rattle.ptu_lanes.proofs.orders.next_order.Goals as goal

pub returns-in-Ok-Some : goal.returns-in-Ok-Some
returns-in-Ok-Some g c =
    let received = c.in-Ok-Some.ensures in
    record {
      spoken = Some (record { ip = c.in-Ok-Some.from; bytes = take c.in-Ok-Some.size c.receive.new.buf });
      took = took_one g.P.Port _ _ _ (rw c.in-Ok-Some.field-0-is at received.first) (rw c.in-Ok-Some.field-0-is at received.rest) received.sent received.quiet;
      is = c.read_command.ensures;
    }

pub returns-in-Ok-None : goal.returns-in-Ok-None
returns-in-Ok-None g c =
    let received = c.in-Ok-None.ensures in
    record {
      spoken = None;
      took = took_none g.P.Port _ _ (rw c.in-Ok-None.field-0-is at received.nothing) (rw c.in-Ok-None.field-0-is at received.left) received.sent received.quiet;
      is = refl;
    }

pub returns-in-Err : goal.returns-in-Err
returns-in-Err g c =
    let received = c.in-Err.ensures in
    record {
      spoken = None;
      took = took_failed g.P.Port _ _ received.kept received.sent received.risen received.once received.no_fall;
      is = refl;
    }
