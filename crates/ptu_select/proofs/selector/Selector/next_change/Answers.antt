use Rattle.std.proofs.Common.{◌∙◌, arith, sym}
use Rattle.ptu_select.proofs.Choosing.{placed_is_selected}
use Rattle.ptu_select.proofs.selector.Selector.next_change.Goals as goal

pub returns-clause-selected : goal.returns-clause-selected
returns-clause-selected c = λ timeouts priorities L h x low high.
    sym (placed_is_selected c.args.self.now timeouts priorities L c.choose.result x c.choose.ensures.stands (omega (arith, c.choose.ensures.from, low)) high h)
    ∙ placed_is_selected c.args.self.now timeouts priorities L c.choose.result c.args.t c.choose.ensures.stands c.choose.ensures.from c.choose.ensures.until h
