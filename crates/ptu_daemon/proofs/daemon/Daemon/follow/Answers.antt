use Rattle.std.proofs.Common.{refl}
use Rattle.ptu_daemon.proofs.Orders.{follows_cause, follows_command}
use Rattle.ptu_daemon.proofs.daemon.Daemon.follow.Goals as goal

pub returns-in_ok-answer-in-Ok : goal.returns-in_ok-answer-in-Ok
returns-in_ok-answer-in-Ok g c =
    let e = c.in_ok-reply-in-Ok in
    rw (c.in-Ok.is)
    (follows_command g.P.Port g.C.Clock c.in-Ok.command c.args.before c.args.tally.now c.args.self.now c.execute.new.self c.args.port.now c.answer.new.port e.reply e.more
    (record { tally = e.more; stops = c.ends.result }) e.ensures c.in_ok-answer-in-Ok.ensures refl c.ends.ensures)

pub returns-in_ok-answer-in-Err : goal.returns-in_ok-answer-in-Err
returns-in_ok-answer-in-Err g c =
    rw (c.in-Err.is)
    (follows_cause g.P.Port g.C.Clock c.in-Err.cause c.args.before c.args.tally.now c.args.self.now c.args.port.now c.answer-in-Err.new.port c.nothing.result
    c.in_ok-answer-in-Err.ensures c.nothing.ensures.tally c.nothing.ensures.stops)
