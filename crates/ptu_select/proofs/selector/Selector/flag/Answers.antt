use Rattle.std.proofs.Common.{refl}
use Rattle.ptu_record.specs.Record.{Judged}
use Rattle.ptu_select.proofs.Masters.{found_at, one_entered}
use Rattle.ptu_select.proofs.selector.Selector.flag.Goals as goal

pub returns-clause-entered : goal.returns-clause-entered
returns-clause-entered c = λ timeouts priorities L h.
    one_entered c.self.inside.masters.items timeouts priorities L (Judged c.args.t c.args.master c.args.unusable) c.args.master c.index_mut-watched.result.now c.flag.new.self
    (found_at c.self.inside.masters.items c.args.self.now c.args.master c.index_mut-watched.result.now c.self.view_is c.requires c.index_mut-watched.ensures.value)
    (λ n. refl) (λ M. c.flag.ensures timeouts M c.args.master) (rw (← c.self.view_is) at h)
