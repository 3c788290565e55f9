use Rattle.ptu_daemon.proofs.daemon.Daemon.begin.Goals as goal
use Rattle.ptu_daemon.proofs.Running.{ran_none}

pub returns-in-None-clause-ran : goal.returns-in-None-clause-ran
returns-in-None-clause-ran g c =
    rw (c.in-None.ensures.change, c.default.ensures.0, c.default.ensures.1) (ran_none g.P.Port g.C.Clock c.args.self.now)

pub returns-in-Some-clause-ran : goal.returns-in-Some-clause-ran
returns-in-Some-clause-ran g c = rw c.in-Some.ensures.change (rw c.of.ensures at c.change.ensures.ran)
