use Rattle.std.proofs.Common.{[], ◌∷◌, refl, ap, ◌∙◌, sym, take, add-zero, ◌+◌}
use Rattle.ptu_outside.specs.declared.tally.Tally.{Tally}
use Rattle.ptu_slave_daemon.proofs.Arrived.{counted_none, none_came, none_received, one_came, took_none}
use Rattle.ptu_slave_daemon.proofs.Ports.{failed_none, failed_once}
use Rattle.ptu_slave_daemon.proofs.taking.take_event.Goals as goal

pub returns-in_ok-take-in-Ok-Some-clause-took : goal.returns-in_ok-take-in-Ok-Some-clause-took
returns-in_ok-take-in-Ok-Some-clause-took g c = λ node L h.
    let e = rw c.in-Ok-Some.field-0-is at c.in-Ok-Some.ensures in
    let t = c.in_ok-take-in-Ok-Some.ensures.ran node L h in (
      record { ip = c.in-Ok-Some.from; bytes = take c.in-Ok-Some.length c.receive.new.buf } ∷ [],
      t.0,
      t.1,
      0,
      (t.2.0, t.2.1 ∙ ap (λ n. c.args.counts.now.failed + n) (sym (add-zero t.1))),
      failed_none g.P.Port.counts_once _ _ e.quiet,
      one_came _ _ _ _ _ e.first e.rest,
      t.3,
    )

pub returns-in-Ok-None-clause-took : goal.returns-in-Ok-None-clause-took
returns-in-Ok-None-clause-took g c = λ node L h.
    let e = rw c.in-Ok-None.field-0-is at c.in-Ok-None.ensures in (
      [],
      0,
      0,
      0,
      counted_none c.args.counts.now,
      failed_none g.P.Port.counts_once _ _ e.quiet,
      none_came _ _ _ _ e.left e.nothing,
      took_none g.P.Port.counts_once node L _ _ 0 h refl refl refl refl (failed_none g.P.Port.counts_once _ _ refl),
    )

pub returns-in-Err-clause-took : goal.returns-in-Err-clause-took
returns-in-Err-clause-took g c = λ node L h. (
  [],
  0,
  0,
  1,
  (ap (λ (k : Tally). k.sent) c.add.ensures, ap (λ (k : Tally). k.failed) c.add.ensures),
  failed_once g.P.Port.counts_once _ _ c.in-Err.ensures.risen c.in-Err.ensures.once c.receive.ensures.no_fall,
  none_received _ _ _ _ c.in-Err.ensures.kept c.in-Err.ensures.risen,
  took_none g.P.Port.counts_once node L _ _ 0 h refl refl refl refl (failed_none g.P.Port.counts_once _ _ refl),
)
