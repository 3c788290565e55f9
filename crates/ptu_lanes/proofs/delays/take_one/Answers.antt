use Rattle.std.proofs.Common.{take, sym, subst, arith}
use Rattle.ptu_outside.specs.declared.arrival.Arrival.{Arrival}
use Rattle.ptu_outside.proofs.HandsOver.{just_once}
use Rattle.ptu_shared.specs.Opening.{HaveFailed}
use Rattle.ptu_grandmaster.proofs.Heard.{on_err}
use Rattle.ptu_shared.proofs.Failing.{failed_none}
use Rattle.ptu_lanes.proofs.Taking.{taken_nothing, taken_one}
use Rattle.ptu_lanes.proofs.delays.take_one.Goals as goal

pub returns-in_ok-delays-in-Ok-Some-clause-taken : goal.returns-in_ok-delays-in-Ok-Some-clause-taken
returns-in_ok-delays-in-Ok-Some-clause-taken g c =
    let received = c.in-Ok-Some.ensures in
    let d : Arrival = record { ip = c.in-Ok-Some.from; bytes = take c.in-Ok-Some.size c.receive.new.buf } in
    rw c.in_ok-delays-in-Ok-Some.ensures.missed
    (taken_one g.P.Port g.C.Clock d _ _ _ _ (rw c.in-Ok-Some.field-0-is at received.first) (rw c.in-Ok-Some.field-0-is at received.rest)
    received.sent received.quiet c.now-at.ensures.rest)

pub returns-in_err-delays-in-Ok-Some-clause-broke_off : goal.returns-in_err-delays-in-Ok-Some-clause-broke_off
returns-in_err-delays-in-Ok-Some-clause-broke_off g c =
    let received = c.in-Ok-Some.ensures in
    let d : Arrival = record { ip = c.in-Ok-Some.from; bytes = take c.in-Ok-Some.size c.receive.new.buf } in
    on_err c.from_residual.result _
    (taken_one g.P.Port g.C.Clock d _ _ _ _ (rw c.in-Ok-Some.field-0-is at received.first) (rw c.in-Ok-Some.field-0-is at received.rest)
    received.sent received.quiet c.now-at.ensures.rest)

pub returns-in-Ok-None-clause-taken : goal.returns-in-Ok-None-clause-taken
returns-in-Ok-None-clause-taken g c =
    let received = c.in-Ok-None.ensures in
    taken_nothing g.P.Port g.C.Clock 0 _ _ _ (rw c.in-Ok-None.field-0-is at received.left) received.sent
    (subst (λ n. HaveFailed g.P.Port.counts_once 0 (g.P.Port.faults c.args.port.now) n) (sym received.quiet) (failed_none g.P.Port.counts_once (g.P.Port.faults c.args.port.now)))

pub returns-in-Err-clause-taken : goal.returns-in-Err-clause-taken
returns-in-Err-clause-taken g c =
    let received = c.in-Err.ensures in
    taken_nothing g.P.Port g.C.Clock 1 _ _ _ received.kept received.sent
    (record {
      risen = received.risen;
      just = λ once. just_once _ _ (received.once once);
      quiet = λ none. absurd (omega (arith, none));
      no_fall = received.no_fall;
    })
