use Rattle.ptu_select.proofs.Watching.{state_of-is}
use Rattle.ptu_select.proofs.watch.Watch.state.Goals as goal

pub returns-clause-found : goal.returns-clause-found
returns-clause-found c = λ timeouts L h.
    rw (c.is_lost.ensures, c.is_lost-2.ensures, c.is_delay_lost.ensures, c.is_awaited.ensures)
    (state_of-is _ timeouts L c.args.t (rw (← c.self.view_is) at h))
