use Rattle.std.proofs.Common.{[]}
use Rattle.ptu_daemon.proofs.daemon.Daemon.turn_tables.Goals as goal
use Rattle.ptu_daemon.proofs.Running.{ran_more}

pub returns-clause-ran : goal.returns-clause-ran
returns-clause-ran g c =
    let p = g.P.Port in
    let k = g.C.Clock in
    rw (c.plus.ensures, c.plus-third.ensures, c.plus-second.ensures)
    (ran_more p k c.args.self.now c.turn-2.new.self c.turn-3.new.self _ _ [] [] [] [] _ _ _ c.turn-3.result.sent c.turn-3.result.failed 0
    (ran_more p k c.args.self.now c.turn.new.self c.turn-2.new.self _ _ [] [] [] [] _ _ _ c.turn-2.result.sent c.turn-2.result.failed 0
    (ran_more p k c.args.self.now c.turn-first.new.self c.turn.new.self _ _ [] [] [] [] c.turn-first.result.sent c.turn-first.result.failed 0 c.turn.result.sent c.turn.result.failed 0
    c.turn-first.ensures.ran c.turn.ensures.ran) c.turn-2.ensures.ran) c.turn-3.ensures.ran)
