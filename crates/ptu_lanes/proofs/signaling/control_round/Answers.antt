use Rattle.std.proofs.Common.{◌≡◌, ◌∙◌, ◌+◌, ◌++◌, [], length, length-append, refl, inl, arith}
use Rattle.ptu_outside.proofs.HandsOver.{just_both}
use Rattle.ptu_grandmaster.proofs.Heard.{on_err}
use Rattle.ptu_outside.specs.Rounds.{most}
use Rattle.ptu_lanes.proofs.Exchanges.{broke_off, exchanged_is, nothing_yet, round_is, round_over, served-append}
use Rattle.ptu_lanes.proofs.Moments.{passed-append, passed_none}
use Rattle.ptu_lanes.proofs.signaling.control_round.Goals as goal

pub loop-i-init : goal.loop-i-init
loop-i-init g c = record { exchanges = []; many = refl; failed = omega arith; moments = passed_none (g.C.Clock.moments c.args.clock.now); served = nothing_yet g.P.Port g.L.Rates.most c.args.service.now.base.now.config.now c.args.port.now c.args.seat.now }

pub loop-i-preserved : goal.loop-i-preserved
loop-i-preserved g c =
    let inv = c.loop-i.invariant in
    let taken = c.in_ok-one.ensures.served in
    let one : length taken.0 ≡ 1 = rw c.if-not-goes_on.false at taken.1 in
    let none : taken.2 ≡ 0 = rw c.if-not-goes_on.false at taken.3 in
    record {
      exchanges = inv.exchanges ++ taken.0;
      many = length-append inv.exchanges taken.0 ∙ omega (arith, one, inv.many);
      failed = omega (arith, inv.failed, c.in_ok-one.ensures.failed);
      moments = passed-append c.loop-i._i 1 _ _ _ inv.moments (rw c.if-not-goes_on.false at c.in_ok-one.ensures.moments);
      served = served-append g.P.Port g.L.Rates.most c.args.service.now.base.now.config.now inv.exchanges taken.0 _ _ _ _ _ _ _ _ _ _ _ _ _ _ inv.served (rw none at taken.4);
    }

pub returns-after-loop-i-clause-round : goal.returns-after-loop-i-clause-round
returns-after-loop-i-clause-round g c =
    let inv = c.loop-i.invariant in
    let all : length inv.exchanges ≡ most = omega (arith, inv.many, c.loop-i-test.false, c.loop-i.auto._i-end) in
    round_is g.P.Port g.L.Rates.most c.args.service.now.base.now.config.now inv.exchanges _ _ _ _ _ _ _ _ inv.served (omega (arith, all)) (inl all)

pub returns-then-not-goes_on-clause-round : goal.returns-then-not-goes_on-clause-round
returns-then-not-goes_on-clause-round g c =
    let inv = c.loop-i.invariant in
    let taken = c.in_ok-one.ensures.served in
    let none : length taken.0 ≡ 0 = rw c.if-not-goes_on.true at taken.1 in
    round_over g.P.Port g.L.Rates.most c.args.service.now.base.now.config.now inv.exchanges taken.0 _ _ _ _ _ _ _ _ _ _ _ _ _ _ inv.served taken.4
    (omega (arith, none, inv.many, c.loop-i-test.true)) (c.in_ok-one.ensures.end c.if-not-goes_on.true)

pub returns-then-not-goes_on-clause-just : goal.returns-then-not-goes_on-clause-just
returns-then-not-goes_on-clause-just g c once =
    let inv = c.loop-i.invariant in
    let taken = c.in_ok-one.ensures.served in
    just_both _ _ _ c.loop-i.control.failed _ (inv.served.just once) (taken.4.just once) taken.4.no_fall

pub returns-then-not-goes_on-clause-quiet : goal.returns-then-not-goes_on-clause-quiet
returns-then-not-goes_on-clause-quiet g c none =
    let inv = c.loop-i.invariant in
    let taken = c.in_ok-one.ensures.served in
    taken.4.quiet (omega (arith, none)) ∙ inv.served.quiet (omega (arith, none))

pub returns-after-loop-i-clause-exchanged : goal.returns-after-loop-i-clause-exchanged
returns-after-loop-i-clause-exchanged g c =
    let inv = c.loop-i.invariant in
    exchanged_is g.P.Port g.C.Clock g.L.Rates.most c.args.service.now.base.now.config.now inv.exchanges c.loop-i._i _ _ _ _ _ _ _ _ _ _ inv.served (omega (arith, inv.many))
    (omega (arith, inv.many, c.loop-i.auto._i-end)) (omega arith) inv.moments

pub returns-then-not-goes_on-clause-exchanged : goal.returns-then-not-goes_on-clause-exchanged
returns-then-not-goes_on-clause-exchanged g c =
    let inv = c.loop-i.invariant in
    let taken = c.in_ok-one.ensures.served in
    let none : length taken.0 ≡ 0 = rw c.if-not-goes_on.true at taken.1 in
    let many : length (inv.exchanges ++ taken.0) ≡ c.loop-i._i = length-append inv.exchanges taken.0 ∙ omega (arith, none, inv.many) in
    exchanged_is g.P.Port g.C.Clock g.L.Rates.most c.args.service.now.base.now.config.now (inv.exchanges ++ taken.0) (c.loop-i._i + 0) _ _ _ _ _ _ _ _ _ _
    (served-append g.P.Port g.L.Rates.most c.args.service.now.base.now.config.now inv.exchanges taken.0 _ _ _ _ _ _ _ _ _ _ _ _ _ _ inv.served taken.4)
    (omega (arith, many)) (omega (arith, many, c.loop-i-test.true)) (omega (arith, taken.3, c.in_ok-one.ensures.failed))
    (passed-append c.loop-i._i 0 _ _ _ inv.moments (rw c.if-not-goes_on.true at c.in_ok-one.ensures.moments))

pub returns-in_err-one-clause-broke_off : goal.returns-in_err-one-clause-broke_off
returns-in_err-one-clause-broke_off g c =
    let inv = c.loop-i.invariant in
    on_err c.from_residual.result _
    (broke_off g.P.Port g.C.Clock g.L.Rates.most c.args.service.now.base.now.config.now inv.exchanges c.loop-i._i _ _ _ _ _ _ _ _ _ _ _ _ _ inv.served (omega (arith, inv.many))
    (omega (arith, c.loop-i-test.true)) inv.moments c.in_err-one.ensures.broke_off)
