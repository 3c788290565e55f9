use Rattle.ptu_daemon.proofs.events.change.Goals as goal
use Rattle.ptu_daemon.proofs.Changing.{change_does}

pub returns-clause-does : goal.returns-clause-does
returns-clause-does g c =
    rw (c.into.ensures, c.into-2.ensures)
    (let e = c.in_ok-changed.ensures.changed in
    change_does g.P.Port c.args.at c.in_ok-changed.changed.at c.args.capacity c.in_ok-changed.changed.sent c.in_ok-changed.changed.failed c.in_ok-changed.changed.shed c.args.gm.now c.put_in_force.new.self
    e.sends e.ports e.config e.shed e.stands)
