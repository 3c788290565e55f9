use Rattle.ptu_record.specs.Record.{Resp}
use Rattle.ptu_select.proofs.Watching.{watched-more}
use Rattle.ptu_select.proofs.watch.Watch.resp.Goals as goal

pub returns : goal.returns
returns c = λ timeouts L m number h.
    rw (c.later_moment-self-inside.ensures, c.late_delay-end.ensures)
    (watched-more _ timeouts L (Resp c.args.t m number) (rw (← c.self.view_is) at h))
