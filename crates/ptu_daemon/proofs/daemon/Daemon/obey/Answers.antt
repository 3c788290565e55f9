use Rattle.ptu_daemon.proofs.Orders.{obeyed_nowhere}
use Rattle.ptu_daemon.proofs.daemon.Daemon.obey.Goals as goal

pub returns-in-None : goal.returns-in-None
returns-in-None g c =
    rw (c.in-None.is)
    (obeyed_nowhere g.P.Port g.C.Clock c.args.key c.args.before c.args.tally.now c.args.self.now c.nothing.result c.nothing.ensures.tally c.nothing.ensures.stops)
