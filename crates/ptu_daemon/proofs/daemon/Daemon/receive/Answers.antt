use Rattle.std.proofs.Common.{subst}
use Rattle.ptu_daemon.specs.Ran.{Receives}
use Rattle.ptu_daemon.proofs.daemon.Daemon.receive.Goals as goal
use Rattle.ptu_daemon.proofs.Receiving.{received_event, received_general}

pub returns-in-General : goal.returns-in-General
returns-in-General g c =
    let e = c.receive_from in
    rw (c.in-General.is)
    (received_general g.P.Port g.C.Clock c.args.self.now e.new.port e.new.buf e.result
    (subst (λ port. Receives g.P.Port port e.new.port e.new.buf e.result) (c.ports.ensures.value) e.ensures))

pub returns-in-Event : goal.returns-in-Event
returns-in-Event g c =
    let e = c.receive_from-in-Event in
    rw (c.in-Event.is)
    (received_event g.P.Port g.C.Clock c.args.self.now e.new.port e.new.buf e.result e.ensures)
