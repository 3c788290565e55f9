use Rattle.std.proofs.Common.{[], ◌∷◌, refl, ap, sym, subst, take}
use Rattle.ptu_outside.specs.Telling.{IfTold, rest_told}
use Rattle.ptu_slave.specs.{Seen.{Seen}, Seen.{seen}}
use Rattle.ptu_slave_daemon.specs.Running.{Stands}
use Rattle.ptu_outside.specs.declared.tally.Tally.{Tally}
use Rattle.ptu_slave_daemon.proofs.Arrived.{counted_none, none_came, none_received, one_came, took_none}
use Rattle.ptu_slave_daemon.proofs.{Ports.{failed_none, failed_once}, Runs.{ran_from}}
use Rattle.ptu_slave_daemon.proofs.taking.take_general.Goals as goal

pub returns-in_ok-take-in-Ok-Some-clause-took : goal.returns-in_ok-take-in-Ok-Some-clause-took
returns-in_ok-take-in-Ok-Some-clause-took g c = λ node L h.
    let e = rw c.in-Ok-Some.field-0-is at c.in-Ok-Some.ensures in
    let t = c.in_ok-take-in-Ok-Some.ensures.ran node L (subst (λ (s : Seen _ _). Stands node s L) (sym c.receive.ensures.rest_is) h) in (
      record { ip = c.in-Ok-Some.from; bytes = take c.in-Ok-Some.length c.receive.new.buf } ∷ [],
      t.0,
      t.1,
      0,
      t.2,
      one_came _ _ _ _ _ e.first (subst (λ w. IfTold w (rest_told (g.P.Port.waiting (seen (λ j. (goal.Judge-dyn g (j.vtable, j.value)).Judge.held j.value) c.args.slave.now).port))) (sym c.take.ensures.waiting) e.rest),
      (t.3.0, ran_from g.P.Port.counts_once node L _ _ _ _ _ _ _ _ _ c.receive.ensures.sent e.quiet refl t.3.1),
    )

pub returns-in-Ok-None-clause-took : goal.returns-in-Ok-None-clause-took
returns-in-Ok-None-clause-took g c = λ node L h.
    let e = rw c.in-Ok-None.field-0-is at c.in-Ok-None.ensures in (
      [],
      0,
      0,
      0,
      counted_none c.args.counts.now,
      none_came _ _ _ _ e.left e.nothing,
      took_none g.P.Port.counts_once node L _ _ 0 h (ap (λ (s : Seen _ _). s.kept) c.receive.ensures.rest_is) (ap (λ (s : Seen _ _). s.judges) c.receive.ensures.rest_is) c.receive.ensures.sent refl (failed_none g.P.Port.counts_once _ _ e.quiet),
    )

pub returns-in-Err-clause-took : goal.returns-in-Err-clause-took
returns-in-Err-clause-took g c = λ node L h. (
  [],
  0,
  1,
  1,
  (ap (λ (k : Tally). k.sent) c.add.ensures, ap (λ (k : Tally). k.failed) c.add.ensures),
  none_received _ _ _ _ c.in-Err.ensures.kept c.in-Err.ensures.risen,
  took_none g.P.Port.counts_once node L _ _ 1 h (ap (λ (s : Seen _ _). s.kept) c.receive.ensures.rest_is) (ap (λ (s : Seen _ _). s.judges) c.receive.ensures.rest_is) c.receive.ensures.sent refl (failed_once g.P.Port.counts_once _ _ c.in-Err.ensures.risen c.in-Err.ensures.once c.receive.ensures.no_fall),
)
