use Rattle.std.proofs.Common.{refl}
use Rattle.ptu_history.specs.History.{Granted}
use Rattle.ptu_trail.specs.declared.trail.Trail.{Trail}
use Rattle.ptu_trail.proofs.Judging.{beside, fit_fault, placed_le, stands_decided}
use Rattle.ptu_trail.proofs.trail.Trail.grant.Goals as goal

pub returns-then-not-fits-clause-fault : goal.returns-then-not-fits-clause-fault
returns-then-not-fits-clause-fault c = λ opening history s.
    fit_fault opening history c.args.at c.args.client c.args.kind c.args.log c.args.until c.args.self.now c.in-Ok.known c.lease.result c.advance.new.self c.remove.new.self c.fits.result _ c.if-not-fits.true (c.in-Ok.ensures.judged history s.clients s.moment) c.lease.ensures c.advance.ensures c.remove.ensures c.fits.ensures.fits s

pub returns-clause-fault : goal.returns-clause-fault
returns-clause-fault c = λ opening history s.
    fit_fault opening history c.args.at c.args.client c.args.kind c.args.log c.args.until c.args.self.now c.in-Ok.known c.lease.result c.advance.new.self c.remove.new.self c.fits.result _ c.if-not-fits.false (c.in-Ok.ensures.judged history s.clients s.moment) c.lease.ensures c.advance.ensures c.remove.ensures c.fits.ensures.fits s

pub returns-clause-stands : goal.returns-clause-stands
returns-clause-stands c = λ opening history s.
    let new : Trail = record { capacity = c.args.self.now.capacity; moment = c.args.at; clients = c.put.new.self; live = c.put-2.new.self } in
    let judged = c.in-Ok.ensures.judged history s.clients s.moment in
    let left = beside opening history c.args.at c.args.client c.args.kind c.args.self.now c.in-Ok.known c.lease.result c.advance.new.self c.remove.new.self s judged c.lease.ensures c.advance.ensures c.remove.ensures in
    let le = placed_le history c.args.at c.args.client judged.0 in
    let r = Granted c.args.at c.args.client c.args.kind c.args.log c.args.until in
    stands_decided opening history r c.args.self.now new s refl refl le refl
    (c.in_ok-put.ensures history r s.clients judged.0.not_shared refl (c.grant.ensures history c.args.client judged.1))
    (c.in_ok-put-2.ensures history left)
