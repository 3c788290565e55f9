use Rattle.ptu_slave.proofs.node.Core.resp.Goals as goal

pub returns-clause-selects : goal.returns-clause-selects
returns-clause-selects c = rw (← c.self.view_is) (λ number L h. c.resp.ensures.entered _ _ L number h)
