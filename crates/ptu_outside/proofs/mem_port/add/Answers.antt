use Rattle.std.proofs.Common.{arith}
use Rattle.ptu_outside.proofs.Slots.{laid_out-push, departures-push}
use Rattle.ptu_outside.proofs.mem_port.add.Goals as goal

pub returns-in-Ok-clause-laid_out : goal.returns-in-Ok-clause-laid_out
returns-in-Ok-clause-laid_out c =
    rw (c.in-Ok.ensures.items, c.in_ok-extend_from_slice.ensures.items)
    (laid_out-push c.args.octets.now.items c.args.bytes.now c.args.slots.now.items _ c.requires (omega (arith, c.len-start.ensures), omega (arith, c.len.ensures, c.in_ok-extend_from_slice.ensures.len)))

pub returns-in-Ok-clause-added : goal.returns-in-Ok-clause-added
returns-in-Ok-clause-added c =
    rw (c.in-Ok.ensures.items, c.in_ok-extend_from_slice.ensures.items)
    (departures-push c.args.octets.now.items c.args.bytes.now c.args.slots.now.items _ c.requires (omega (arith, c.len-start.ensures), omega (arith, c.len.ensures, c.in_ok-extend_from_slice.ensures.len)))
