use Rattle.ptu_record.specs.Record.{record_of}
use Rattle.ptu_select.proofs.Masters.{found_at}
use Rattle.ptu_select.proofs.selector.Selector.state.Goals as goal

pub returns : goal.returns
returns c = λ timeouts priorities L h.
    c.state.ensures.found timeouts (record_of c.args.master L)
    ((rw (← c.self.view_is) at h).watches_are c.args.master c.index.result.now
    (found_at c.self.inside.masters.items c.args.self.now c.args.master c.index.result.now c.self.view_is c.requires c.index.ensures))
