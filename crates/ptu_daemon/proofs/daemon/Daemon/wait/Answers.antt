use Rattle.ptu_daemon.proofs.daemon.Daemon.wait.Goals as goal
use Rattle.ptu_daemon.proofs.Receiving.{waited}

pub returns : goal.returns
returns g c =
    let e = c.wait in
    waited g.P.Port g.C.Clock c.args.self.now e.new.self e.ensures.sent e.ensures.waiting e.ensures.quiet
