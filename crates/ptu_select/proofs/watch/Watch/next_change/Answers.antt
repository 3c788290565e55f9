use Rattle.std.proofs.Common.{◌≡◌, ◌≢◌, ◌<◌, ◌^◌, ◌-◌, subst, arith, ◌∙◌, ap₂, min}
use Rattle.ptu_select.specs.WatchState.{state_of}
use Rattle.ptu_select.proofs.Changes.{state_alike, state_differs}
use Rattle.ptu_select.proofs.watch.Watch.next_change.Goals as goal

pub returns-clause-before : goal.returns-clause-before
returns-clause-before c = λ x low high.
    subst (λ w. state_of w x ≡ state_of w c.args.t) c.self.view_is
    (state_alike _ x c.args.t
    (c.loss_after-announce.ensures.before x low (omega (arith, high, c.min.ensures, c.min-2.ensures, c.min-3.ensures)))
    (c.loss_after-sync.ensures.before x low (omega (arith, high, c.min.ensures, c.min-2.ensures, c.min-3.ensures)))
    (c.delay_loss_after-delay.ensures.before x low (omega (arith, high, c.min.ensures, c.min-2.ensures, c.min-3.ensures)))
    (c.awaited_until-waiting.ensures.before x low (omega (arith, high, c.min.ensures, c.min-2.ensures, c.min-3.ensures))))

pub returns-clause-there : goal.returns-clause-there
returns-clause-there c =
    subst (λ w. c.min-3.result < 2 ^ 64 - 1 → state_of w c.min-3.result ≢ state_of w c.args.t) c.self.view_is
    (state_differs _ c.loss_after-announce.result c.loss_after-sync.result c.delay_loss_after-delay.result c.awaited_until-waiting.result c.min-3.result c.args.t (2 ^ 64 - 1)
    (c.min-3.ensures ∙ ap₂ min c.min.ensures c.min-2.ensures)
    c.loss_after-announce.ensures.there c.loss_after-sync.ensures.there c.delay_loss_after-delay.ensures.there c.awaited_until-waiting.ensures.there)
