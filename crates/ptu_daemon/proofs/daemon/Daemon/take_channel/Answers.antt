use Rattle.std.proofs.Common.{◌<◌, ◌≤◌, ◌+◌, ◌*◌, ◌^◌, ℕ, subst, arith}
use Rattle.ptu_daemon.specs.Ran.{CameTo}
use Rattle.ptu_daemon.proofs.daemon.Daemon.take_channel.Goals as goal
use Rattle.ptu_daemon.proofs.Channels.{taking_more, taking_none, took_failed, took_most, took_nothing}

room : (count n m : ℕ) → count < 64 → n ≤ count * 2 ^ 64 → m ≤ 1 * 2 ^ 64 → n + m < 2 ^ 128
room count n m few small more = omega arith

few_small : (count n : ℕ) → count ≤ 64 → n ≤ count * 2 ^ 64 → n ≤ 64 * 2 ^ 64
few_small count n few small = omega arith

one_more : (count n : ℕ) → count < 64 → n ≤ count * 2 ^ 64 → n + 1 ≤ 64 * 2 ^ 64
one_more count n few small = omega arith

pub loop-init : goal.loop-init
loop-init g c = taking_none g.P.Port g.C.Clock c.args.channel c.args.self.now c.default-tally.result c.default-tally.ensures

pub plus-tally-requires-clause-sent : goal.plus-tally-requires-clause-sent
plus-tally-requires-clause-sent g c =
    let came = subst (λ next. CameTo g.P.Port g.C.Clock c.args.channel c.loop.self c.take_next.new.self next) c.in-Taken.is c.in_ok-more.ensures in
    room c.loop.counter c.loop.tally.sent c.in-Taken.more.sent c.loop-test.true c.loop.invariant.small.0 came.2.0

pub plus-tally-requires-clause-failed : goal.plus-tally-requires-clause-failed
plus-tally-requires-clause-failed g c =
    let came = subst (λ next. CameTo g.P.Port g.C.Clock c.args.channel c.loop.self c.take_next.new.self next) c.in-Taken.is c.in_ok-more.ensures in
    room c.loop.counter c.loop.tally.failed c.in-Taken.more.failed c.loop-test.true c.loop.invariant.small.1 came.2.1

pub returns-in-Nothing-clause-took : goal.returns-in-Nothing-clause-took
returns-in-Nothing-clause-took g c =
    took_nothing g.P.Port g.C.Clock c.args.channel c.args.self.now c.loop.self c.take_next.new.self c.loop.counter c.loop.tally
    (omega (arith, c.loop-test.true)) c.loop.invariant
    (subst (λ next. CameTo g.P.Port g.C.Clock c.args.channel c.loop.self c.take_next.new.self next) c.in-Nothing.is c.in_ok-more.ensures)

pub returns-in-Nothing-clause-small : goal.returns-in-Nothing-clause-small
returns-in-Nothing-clause-small g c = (
  few_small c.loop.counter c.loop.tally.sent (omega (arith, c.loop-test.true)) c.loop.invariant.small.0,
  few_small c.loop.counter c.loop.tally.failed (omega (arith, c.loop-test.true)) c.loop.invariant.small.1,
)

pub plus-requires-clause-sent : goal.plus-requires-clause-sent
plus-requires-clause-sent g c = room c.loop.counter c.loop.tally.sent 0 c.loop-test.true c.loop.invariant.small.0 (omega arith)

pub plus-requires-clause-failed : goal.plus-requires-clause-failed
plus-requires-clause-failed g c = room c.loop.counter c.loop.tally.failed 1 c.loop-test.true c.loop.invariant.small.1 (omega arith)

pub returns-in-Failed-clause-took : goal.returns-in-Failed-clause-took
returns-in-Failed-clause-took g c =
    rw (c.plus.ensures)
    (took_failed g.P.Port g.C.Clock c.args.channel c.args.self.now c.loop.self c.take_next.new.self c.loop.counter c.loop.tally (omega (arith, c.loop-test.true)) c.loop.invariant
    (subst (λ next. CameTo g.P.Port g.C.Clock c.args.channel c.loop.self c.take_next.new.self next) c.in-Failed.is c.in_ok-more.ensures))

pub returns-in-Failed-clause-small : goal.returns-in-Failed-clause-small
returns-in-Failed-clause-small g c =
    rw (c.plus.ensures) (
      one_more_or c.loop.counter c.loop.tally.sent c.loop-test.true c.loop.invariant.small.0,
      one_more c.loop.counter c.loop.tally.failed c.loop-test.true c.loop.invariant.small.1,
    )
  where
    one_more_or : (count n : ℕ) → count < 64 → n ≤ count * 2 ^ 64 → n + 0 ≤ 64 * 2 ^ 64
    one_more_or count n few small = omega arith

pub loop-preserved : goal.loop-preserved
loop-preserved g c =
    rw (c.plus-tally.ensures)
    (taking_more g.P.Port g.C.Clock c.args.channel c.args.self.now c.loop.self c.take_next.new.self c.loop.counter c.loop.tally c.in-Taken.more c.loop.invariant
    (subst (λ next. CameTo g.P.Port g.C.Clock c.args.channel c.loop.self c.take_next.new.self next) c.in-Taken.is c.in_ok-more.ensures))

pub returns-clause-took : goal.returns-clause-took
returns-clause-took g c =
    took_most g.P.Port g.C.Clock c.args.channel c.args.self.now c.loop.self c.loop.counter c.loop.tally
    (omega (arith, c.loop-test.false, c.loop.auto.counter-end)) c.loop.invariant

pub returns-clause-small : goal.returns-clause-small
returns-clause-small g c = (
  few_small c.loop.counter c.loop.tally.sent c.loop.auto.counter-end c.loop.invariant.small.0,
  few_small c.loop.counter c.loop.tally.failed c.loop.auto.counter-end c.loop.invariant.small.1,
)
