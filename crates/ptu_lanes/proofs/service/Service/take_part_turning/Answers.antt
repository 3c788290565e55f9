use Rattle.std.proofs.Common.{◌≡◌, IfOk, refl, subst}
use Rattle.ptu_shared.specs.Turning.{after_rounds}
use Rattle.ptu_lanes.specs.Waiting.{PassedBy, rights}
use Rattle.ptu_lanes.proofs.Moments.{turned_more, turned_none}
use Rattle.ptu_lanes.proofs.service.Service.take_part_turning.Goals as goal

pub loop-i-init : goal.loop-i-init
loop-i-init g c = record { done = c.requires.fresh; turned = turned_none g.C.Clock _ _ }

pub loop-i-preserved : goal.loop-i-preserved
loop-i-preserved g c =
    let old = c.loop-i.lane in
    record {
      done = refl;
      turned = turned_more g.C.Clock c.loop-i.i _ _ _ _ _ _ c.loop-i.invariant.turned
          (subst (λ met. IfOk met (λ lane. PassedBy (rights old.turner) (g.C.Clock.moments old.clock) (g.C.Clock.moments lane.clock))) c.in_ok-next.ensures c.turn_own.ensures.moments)
          (subst (λ met. IfOk met (λ lane. lane.turner ≡ after_rounds 1 old.turner)) c.in_ok-next.ensures c.turn_own.ensures.turns);
    }

pub returns-then-not-branch : goal.returns-then-not-branch
returns-then-not-branch g c =
    let old = c.loop-i.lane in
    turned_more g.C.Clock c.loop-i.i _ _ _ _ _ _ c.loop-i.invariant.turned
    (subst (λ met. IfOk met (λ lane. PassedBy (rights old.turner) (g.C.Clock.moments old.clock) (g.C.Clock.moments lane.clock))) c.in_ok-next.ensures c.turn_own.ensures.moments)
    (subst (λ met. IfOk met (λ lane. lane.turner ≡ after_rounds 1 old.turner)) c.in_ok-next.ensures c.turn_own.ensures.turns)

pub returns : goal.returns
returns g c = rw c.loop-i.invariant.done c.loop-i.invariant.turned
