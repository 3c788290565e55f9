use Rattle.std.proofs.Common.{refl, arith}
use Rattle.ptu_lanes.proofs.Moving.{moved_taken}
use Rattle.ptu_lanes.proofs.Stretching.{front_given}
use Rattle.ptu_lanes.proofs.service.Service.take_signaling.Goals as goal

pub returns-clause-took : goal.returns-clause-took
returns-clause-took g c =
    let did = c.in_ok-control.ensures in
    let x = did.exchanged in
    record {
      exchanges = x.exchanges;
      few = omega (arith, x.few);
      answered = x.answered;
      missed = x.missed;
      once = x.once;
      moved = moved_taken g.P.Port g.C.Clock c.args.self.now.base.now.config.now g.L.Rates.most _ _ _ _ x c.plus-lane.ensures.sent c.plus-lane.ensures.failed;
      front = λ still. front_given g.P.Port g.L.Rates.most c.args.self.now.base.now.config.now _ _ _ _ _ _ (did.round still);
      most = omega (arith, did.counts, did.most.0);
      beside = record { at = refl; stopped = refl };
    }
