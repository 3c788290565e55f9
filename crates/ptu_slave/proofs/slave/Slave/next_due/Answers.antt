use Rattle.ptu_slave.specs.Seen.{seen}
use Rattle.ptu_slave.proofs.Waiting.{idle_until}
use Rattle.ptu_slave.proofs.slave.Slave.next_due.Goals as goal

pub returns-clause-idle : goal.returns-clause-idle
unfolding seen
returns-clause-idle g c = λ openings L h.
    idle_until openings c.args.self.now.core _ L c.next_due.result h c.next_due.ensures.sends c.next_due.ensures.selected
