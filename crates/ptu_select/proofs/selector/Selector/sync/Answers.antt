use Rattle.std.proofs.Common.{refl}
use Rattle.ptu_record.specs.Record.{Sync}
use Rattle.ptu_select.proofs.Masters.{found_at, one_entered}
use Rattle.ptu_select.proofs.selector.Selector.sync.Goals as goal

pub returns-clause-entered : goal.returns-clause-entered
returns-clause-entered c = λ timeouts priorities L number h.
    one_entered c.self.inside.masters.items timeouts priorities L (Sync c.args.t c.args.master number) c.args.master c.index_mut-watched.result.now c.sync.new.self
    (found_at c.self.inside.masters.items c.args.self.now c.args.master c.index_mut-watched.result.now c.self.view_is c.requires c.index_mut-watched.ensures.value)
    (λ n. refl) (λ M. c.sync.ensures timeouts M c.args.master number) (rw (← c.self.view_is) at h)
