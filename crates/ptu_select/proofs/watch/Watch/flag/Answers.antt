use Rattle.ptu_record.specs.Record.{Judged}
use Rattle.ptu_select.proofs.Watching.{watched-more}
use Rattle.ptu_select.proofs.watch.Watch.flag.Goals as goal

pub returns : goal.returns
returns c = λ timeouts L m h.
    rw (c.later_moment-self-inside.ensures, c.cleared_moment-end.ensures)
    (watched-more _ timeouts L (Judged c.args.t m c.args.unusable) (rw (← c.self.view_is) at h))
