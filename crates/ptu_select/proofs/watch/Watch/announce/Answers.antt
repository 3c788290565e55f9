use Rattle.ptu_record.specs.Record.{Announce}
use Rattle.ptu_select.proofs.Watching.{watched-more}
use Rattle.ptu_select.proofs.watch.Watch.announce.Goals as goal

pub returns : goal.returns
returns c = λ timeouts L m h.
    rw (c.quality_of-self-inside.ensures, c.later_moment-self-inside.ensures, c.late_moment-end.ensures)
    (watched-more _ timeouts L (Announce c.args.t m c.args.class) (rw (← c.self.view_is) at h))
