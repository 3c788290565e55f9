use Rattle.std.proofs.{Common.{arith, inr}, lemmas.Result.{err_from_is_err_and}}
use Rattle.ptu_outside.proofs.Slots.{octets_of-departures}
use Rattle.ptu_outside.proofs.mem_port.MemPort.reserve.Goals as goal

pub returns-clause-octets : goal.returns-clause-octets
returns-clause-octets c =
    rw (← c.self.view_is, octets_of-departures c.self.inside.octets.items c.self.inside.slots.items c.self.invariant.0) (omega (arith, c.in_ok-reserve-2.ensures.ok))

pub returns-in_err-reserve-2-clause-full : goal.returns-in_err-reserve-2-clause-full
returns-in_err-reserve-2-clause-full c =
    let p = err_from_is_err_and c.from_residual-in_err-reserve-2.result c.from_residual-in_err-reserve-2.ensures.1 in
    rw (p.1, p.2) (inr (rw (← c.self.view_is, octets_of-departures c.self.inside.octets.items c.self.inside.slots.items c.self.invariant.0) (omega (arith, c.in_err-reserve-2.ensures.full))))
