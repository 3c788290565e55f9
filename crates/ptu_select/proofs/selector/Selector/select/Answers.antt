use Rattle.ptu_select.proofs.Choosing.{placed_is_selected}
use Rattle.ptu_select.proofs.selector.Selector.select.Goals as goal

pub returns-clause-selected : goal.returns-clause-selected
returns-clause-selected c = λ timeouts priorities L h.
    placed_is_selected c.args.self.now timeouts priorities L c.choose.result c.args.t c.choose.ensures.stands c.choose.ensures.from c.choose.ensures.until h
