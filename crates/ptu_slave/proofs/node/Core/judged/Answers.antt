use Rattle.ptu_slave.proofs.node.Core.judged.Goals as goal

pub returns-clause-selects : goal.returns-clause-selects
returns-clause-selects c = rw (← c.self.view_is) (λ L h. c.flag.ensures.entered _ _ L h)
