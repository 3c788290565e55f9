use Rattle.std.proofs.Common.{[], ◌∷◌, take, refl, inl, arith}
use Rattle.ptu_outside.proofs.HandsOver.{just_once}
use Rattle.ptu_lanes.specs.Rounds.{Exchange}
use Rattle.ptu_outside.specs.declared.arrival.Arrival.{Arrival}
use Rattle.ptu_grandmaster.proofs.Heard.{on_err}
use Rattle.ptu_lanes.proofs.Exchanges.{served_none, served_received, unanswered}
use Rattle.ptu_lanes.proofs.Moments.{passed_none, passed_one}
use Rattle.ptu_lanes.proofs.signaling.take_one.Goals as goal

pub returns-in_ok-answered-in-Ok-Some-clause-served :
    goal.returns-in_ok-answered-in-Ok-Some-clause-served
returns-in_ok-answered-in-Ok-Some-clause-served g c =
    let replied = c.in_ok-answered-in-Ok-Some.ensures.replied in
    let received = c.in-Ok-Some.ensures in
    let e : Exchange = record {
      datagram = record { ip = c.in-Ok-Some.from; bytes = take c.in-Ok-Some.size c.receive.new.buf };
      outcomes = replied.0;
    } in (
      e ∷ [],
      refl,
      0,
      refl,
      served_received g.P.Port g.L.Rates.most c.args.service.now.base.now.config.now e _ _ _ _ _ _ _ _
          (rw c.in-Ok-Some.field-0-is at received.first) (rw c.in-Ok-Some.field-0-is at received.rest) received.sent received.quiet replied.1,
    )

pub returns-in-Ok-None-clause-served : goal.returns-in-Ok-None-clause-served
returns-in-Ok-None-clause-served g c =
    let received = c.in-Ok-None.ensures in (
      [],
      refl,
      0,
      refl,
      served_none g.P.Port g.L.Rates.most c.args.service.now.base.now.config.now _ _ 0 c.args.seat.now (rw c.in-Ok-None.field-0-is at received.left) received.sent
          (inl (omega (arith, received.quiet))) (λ once. inl (omega (arith, received.quiet))) (λ none. received.quiet) received.no_fall,
    )

pub returns-in-Err-clause-served : goal.returns-in-Err-clause-served
returns-in-Err-clause-served g c =
    let received = c.in-Err.ensures in (
      [],
      refl,
      1,
      refl,
      served_none g.P.Port g.L.Rates.most c.args.service.now.base.now.config.now _ _ 1 c.args.seat.now received.kept received.sent
          received.risen (λ once. just_once _ _ (received.once once)) (λ none. absurd (omega (arith, none))) received.no_fall,
    )

pub returns-in_ok-answered-in-Ok-Some-clause-moments : goal.returns-in_ok-answered-in-Ok-Some-clause-moments
returns-in_ok-answered-in-Ok-Some-clause-moments g c = passed_one _ _ c.now-at.ensures.rest

pub returns-in-Ok-None-clause-moments : goal.returns-in-Ok-None-clause-moments
returns-in-Ok-None-clause-moments g c = passed_none (g.C.Clock.moments c.args.clock.now)

pub returns-in-Err-clause-moments : goal.returns-in-Err-clause-moments
returns-in-Err-clause-moments g c = passed_none (g.C.Clock.moments c.args.clock.now)

pub returns-in_err-answered-in-Ok-Some-clause-broke_off : goal.returns-in_err-answered-in-Ok-Some-clause-broke_off
returns-in_err-answered-in-Ok-Some-clause-broke_off g c =
    let received = c.in-Ok-Some.ensures in
    let kept = c.in_err-answered-in-Ok-Some.ensures in
    let d : Arrival = record { ip = c.in-Ok-Some.from; bytes = take c.in-Ok-Some.size c.receive.new.buf } in
    on_err c.from_residual.result _
    (unanswered g.P.Port g.C.Clock d _ _ _ _ _ _ _ kept.unsent (rw c.in-Ok-Some.field-0-is at received.first) (rw c.in-Ok-Some.field-0-is at received.rest)
    received.sent received.quiet kept.no_less c.now-at.ensures.rest)
