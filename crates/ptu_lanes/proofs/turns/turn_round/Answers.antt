use Rattle.std.proofs.Common.{◌+◌, arith}
use Rattle.ptu_lanes.specs.Waiting.{PassedBy, one_right}
use Rattle.ptu_lanes.proofs.Moments.{passed-append, passed_as}
use Rattle.ptu_lanes.proofs.turns.turn_round.Goals as goal

pub returns-clause-moments : goal.returns-clause-moments
returns-clause-moments g c =
    let turns = c.args.turner.now in
    let a = one_right turns.t0 in
    let b = one_right turns.t1 in
    let d = one_right turns.t2 in
    let e = one_right turns.t3 in
    let second : PassedBy b (g.C.Clock.moments c.turn_one.new.clock) (g.C.Clock.moments c.turn_one-2.new.clock) = rw c.turn_one.ensures.turns at c.turn_one-2.ensures.moments in
    let third : PassedBy d (g.C.Clock.moments c.turn_one-2.new.clock) (g.C.Clock.moments c.turn_one-3.new.clock) =
    rw c.turn_one.ensures.turns at (rw c.turn_one-2.ensures.turns at c.turn_one-3.ensures.moments) in
    let fourth : PassedBy e (g.C.Clock.moments c.turn_one-3.new.clock) (g.C.Clock.moments c.turn_one-4.new.clock) =
    rw c.turn_one.ensures.turns at (rw c.turn_one-2.ensures.turns at (rw c.turn_one-3.ensures.turns at c.turn_one-4.ensures.moments)) in
    passed-append (0 + a + b + d) e _ _ _
    (passed-append (0 + a + b) d _ _ _ (passed-append (0 + a) b _ _ _ (passed_as a (0 + a) _ _ (omega arith) c.turn_one.ensures.moments) second) third) fourth

pub returns-clause-turns : goal.returns-clause-turns
returns-clause-turns g c =
    rw c.turn_one.ensures.turns at (rw c.turn_one-2.ensures.turns at (rw c.turn_one-3.ensures.turns at c.turn_one-4.ensures.turns))
