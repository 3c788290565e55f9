use Rattle.std.proofs.Common.{[], ◌∷◌, ap, refl, ◌∙◌}
use Rattle.ptu_slave.specs.Seen.{Seen, seen}
use Rattle.ptu_slave_daemon.specs.Happenings.{Ticks}
use Rattle.ptu_outside.specs.declared.tally.Tally.{Tally}
use Rattle.ptu_slave_daemon.specs.Running.{sees}
use Rattle.ptu_slave_daemon.proofs.{Events.{ran_ticked}, Ports.{port_stated}, Runs.{ran_view}}
use Rattle.ptu_slave_daemon.proofs.Times.{timed_one}
use Rattle.ptu_slave_daemon.proofs.steps.tick.Goals as goal

pub returns-clause-ran : goal.returns-clause-ran
returns-clause-ran g c = λ node L round h.
    let unchanged = c.next_due-due.ensures.unchanged ∙ c.selected_address-master.ensures.unchanged in (
      c.tick-ticked.result.sent,
      c.tick-ticked.result.failed,
      Ticks round c.now-at.result ∷ [],
      (ap (λ (k : Tally). k.sent) c.add.ensures, ap (λ (k : Tally). k.failed) c.add.ensures),
      ran_view g.P.Port.counts_once node L _
          (sees g.P.Port g.C.Clock (seen (λ j. (goal.Judge-dyn g (j.vtable, j.value)).Judge.held j.value) c.tick-ticked.new.self) c.now-at.new.self)
          _ _ _ _ _ _ _ (ap (λ (s : Seen _ _). s.kept) unchanged) (ap (λ (s : Seen _ _). s.judges) unchanged)
          (ap (λ (s : Seen _ _). g.P.Port.sent s.port) unchanged) (ap (λ (s : Seen _ _). g.P.Port.faults s.port) unchanged) refl
          (ran_ticked g.P.Port.counts_once node L _ _ c.now-at.result h c.tick-ticked.ensures.same c.tick-ticked.result.at round c.tick-ticked.result.sent c.tick-ticked.result.failed c.selected_address-master.result
          (timed_one _ _ c.now-at.result (λ at. Ticks round at) (g.met.C.Clock.never_empty c.args.clock.now) c.now-at.ensures.first c.now-at.ensures.rest)
          c.tick-ticked.ensures.ticked.at (c.tick-ticked.ensures.ticked.steps node.openings L h.stands) (port_stated g.P.Port _ _ _ _ _ _ _ c.tick-ticked.ensures.ticked.sends.1 (c.tick-ticked.ensures.ticked.sends.2 node.openings L h.stands))
          c.selected_address-master.ensures.selected),
    )
