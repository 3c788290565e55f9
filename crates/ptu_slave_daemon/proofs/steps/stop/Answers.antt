use Rattle.std.proofs.Common.{[], ◌∷◌, ap}
use Rattle.ptu_slave_daemon.specs.Happenings.{Stops}
use Rattle.ptu_outside.specs.declared.tally.Tally.{Tally}
use Rattle.ptu_slave_daemon.proofs.{Events.{ran_stopped}, Ports.{port_stated}, Times.{timed_one}}
use Rattle.ptu_slave_daemon.proofs.steps.stop.Goals as goal

pub returns-clause-ran : goal.returns-clause-ran
returns-clause-ran g c = λ node L h. (
  c.stop-stopped.result.sent,
  c.stop-stopped.result.failed,
  Stops c.now-at.result ∷ [],
  (ap (λ (k : Tally). k.sent) c.add.ensures, ap (λ (k : Tally). k.failed) c.add.ensures),
  ran_stopped g.P.Port.counts_once node L _ _ c.now-at.result h c.stop-stopped.ensures.same c.stop-stopped.result.at c.stop-stopped.result.sent c.stop-stopped.result.failed
      (timed_one _ _ c.now-at.result (λ at. Stops at) (g.met.C.Clock.never_empty c.args.clock.now) c.now-at.ensures.first c.now-at.ensures.rest)
      c.stop-stopped.ensures.stopped.at (c.stop-stopped.ensures.stopped.steps node.openings L h.stands) (port_stated g.P.Port _ _ _ _ _ _ _ c.stop-stopped.ensures.stopped.sends.1 (c.stop-stopped.ensures.stopped.sends.2 node.openings L h.stands)),
)
