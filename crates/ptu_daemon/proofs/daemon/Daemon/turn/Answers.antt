use Rattle.std.proofs.Common.{refl}
use Rattle.ptu_daemon.proofs.daemon.Daemon.turn.Goals as goal
use Rattle.ptu_daemon.proofs.Running.{ran_event}

pub returns-clause-ran : goal.returns-clause-ran
returns-clause-ran g c =
    ran_event g.P.Port g.C.Clock c.args.self.now _ c.now-at.result _ c.turn.result.sent c.turn.result.failed
    c.now-at.ensures.first c.now-at.ensures.rest refl c.turn.ensures.does
