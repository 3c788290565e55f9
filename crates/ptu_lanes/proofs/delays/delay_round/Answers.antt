use Rattle.std.proofs.Common.{◌≡◌, ◌+◌, refl, inl, inr, arith}
use Rattle.ptu_outside.proofs.Told.{HasRisenBy-before}
use Rattle.ptu_outside.specs.Rounds.{most}
use Rattle.ptu_lanes.specs.Waiting.{HasTaken}
use Rattle.ptu_lanes.proofs.Taking.{gave_first, none_taken, taken_more, took_up_to}
use Rattle.ptu_lanes.proofs.delays.delay_round.Goals as goal

pub loop-i-init : goal.loop-i-init
loop-i-init g c = record { none = refl; few = omega arith; taken = none_taken g.P.Port g.C.Clock c.args.port.now c.args.clock.now }

pub loop-i-preserved : goal.loop-i-preserved
loop-i-preserved g c =
    let inv = c.loop-i.invariant in
    let e = c.in_ok-one.ensures in
    record {
      none = omega (arith, inv.none, e.once c.if-not-goes_on.false);
      few = omega (arith, inv.few, e.most);
      taken = taken_more g.P.Port g.C.Clock c.loop-i._i 1 _ _ _ _ _ _ _ _ inv.taken (rw c.if-not-goes_on.false at e.taken);
    }

pub returns-after-loop-i-clause-round : goal.returns-after-loop-i-clause-round
returns-after-loop-i-clause-round g c same =
    let all : c.loop-i._i ≡ most = omega (arith, c.loop-i-test.false, c.loop-i.auto._i-end) in
    gave_first g.P.Port g.C.Clock c.loop-i._i _ _ _ _ _ c.loop-i.invariant.taken (omega (arith, all)) (inl all)

pub returns-then-not-goes_on-clause-round : goal.returns-then-not-goes_on-clause-round
returns-then-not-goes_on-clause-round g c same =
    let inv = c.loop-i.invariant in
    let e = c.in_ok-one.ensures in
    gave_first g.P.Port g.C.Clock (c.loop-i._i + 0) _ _ _ _ _
    (taken_more g.P.Port g.C.Clock c.loop-i._i 0 _ _ _ _ _ _ _ _ inv.taken (rw c.if-not-goes_on.true at e.taken))
    (omega (arith, c.loop-i-test.true))
    (inr (e.end c.if-not-goes_on.true (λ rises. same (HasRisenBy-before 1 _ _ _ inv.taken.failures.no_fall.0 rises))))

pub returns-after-loop-i-clause-took : goal.returns-after-loop-i-clause-took
returns-after-loop-i-clause-took g c =
    took_up_to g.P.Port g.C.Clock c.loop-i._i _ most _ _ _ _ c.loop-i.invariant.taken (omega (arith, c.loop-i.auto._i-end))

pub returns-then-not-goes_on-clause-took : goal.returns-then-not-goes_on-clause-took
returns-then-not-goes_on-clause-took g c =
    took_up_to g.P.Port g.C.Clock (c.loop-i._i + 0) _ most _ _ _ _
    (taken_more g.P.Port g.C.Clock c.loop-i._i 0 _ _ _ _ _ _ _ _ c.loop-i.invariant.taken (rw c.if-not-goes_on.true at c.in_ok-one.ensures.taken))
    (omega (arith, c.loop-i-test.true))

pub returns-in_err-one-clause-took : goal.returns-in_err-one-clause-took
returns-in_err-one-clause-took g c =
    took_up_to g.P.Port g.C.Clock (c.loop-i._i + 1) _ most _ _ _ _
    (taken_more g.P.Port g.C.Clock c.loop-i._i 1 _ 0 _ _ _ _ _ _ c.loop-i.invariant.taken c.in_err-one.ensures.broke_off)
    (omega (arith, c.loop-i-test.true))

pub returns-then-not-goes_on-clause-failed : goal.returns-then-not-goes_on-clause-failed
returns-then-not-goes_on-clause-failed g c =
    let all : HasTaken g.P.Port g.C.Clock (c.loop-i._i + 0) _ _ _ _ _ =
    taken_more g.P.Port g.C.Clock c.loop-i._i 0 _ _ _ _ _ _ _ _ c.loop-i.invariant.taken (rw c.if-not-goes_on.true at c.in_ok-one.ensures.taken) in
    all.failures

pub returns-after-loop-i-clause-once : goal.returns-after-loop-i-clause-once
returns-after-loop-i-clause-once g c = omega (arith, c.loop-i.invariant.none)

pub returns-then-not-goes_on-clause-once : goal.returns-then-not-goes_on-clause-once
returns-then-not-goes_on-clause-once g c = omega (arith, c.loop-i.invariant.none, c.in_ok-one.ensures.most)
