use Rattle.ptu_daemon.proofs.events.turn.Goals as goal
use Rattle.ptu_daemon.proofs.Turning.{turn_does}

pub returns-clause-does : goal.returns-clause-does
returns-clause-does g c =
    rw (c.into.ensures, c.into-2.ensures)
    (turn_does g.P.Port c.args.at c.args.table c.turn-turned.result.at c.turn-turned.result.sent c.turn-turned.result.failed c.args.gm.now c.turn-turned.new.self
    c.requires c.turn-turned.ensures.sends c.turn-turned.ensures.rest c.turn-turned.ensures.messages c.turn-turned.ensures.stands)
