use Rattle.ptu_daemon.proofs.Running.{ran_none}
use Rattle.ptu_daemon.proofs.daemon.Daemon.wait_unless.Goals as goal

pub returns-then-stops : goal.returns-then-stops
returns-then-stops g c = ran_none g.P.Port g.C.Clock c.args.self.now
