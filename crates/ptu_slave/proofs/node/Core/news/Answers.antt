use Rattle.std.proofs.Common.{[], ◌∷◌, refl}
use Rattle.ptu_record.specs.Record.{Told}
use Rattle.ptu_select.proofs.Masters.{unwatched_by}
use Rattle.ptu_slave.proofs.node.Core.news.Goals as goal

pub returns-in-Sync-clause-selects : goal.returns-in-Sync-clause-selects
returns-in-Sync-clause-selects c = rw (← c.self.view_is, c.in-Sync.is) (λ L h. c.sync.ensures.entered _ _ L _ h)

pub returns-in-Word-clause-selects : goal.returns-in-Word-clause-selects
returns-in-Word-clause-selects c = rw c.in-Word.is (λ L h. unwatched_by _ _ _ L (Told c.args.at c.args.master _ ∷ []) (refl, tt) h)
