use Rattle.std.proofs.Common.{refl}
use Rattle.ptu_daemon.proofs.daemon.Daemon.change.Goals as goal
use Rattle.ptu_daemon.proofs.Running.{ok_more, ran_event}

pub returns-clause-ran : goal.returns-clause-ran
returns-clause-ran g c =
    ok_more c.change.result (λ tally h. ran_event g.P.Port g.C.Clock c.args.self.now _ c.now-at.result _ tally.sent tally.failed
    c.now-at.ensures.first c.now-at.ensures.rest refl h) c.change.ensures.does
