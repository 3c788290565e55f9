use Rattle.ptu_slave.proofs.node.Core.announce.Goals as goal

pub returns-clause-selects : goal.returns-clause-selects
returns-clause-selects c = rw (← c.self.view_is) (λ L h. c.announce.ensures.entered _ _ L h)
