use Rattle.ptu_slave.proofs.judging.give.Goals as goal

pub returns-in-Sync-clause-stands : goal.returns-in-Sync-clause-stands
returns-in-Sync-clause-stands g c = rw c.in-Sync.is c.hear.ensures.stands

pub returns-in-Word-clause-stands : goal.returns-in-Word-clause-stands
returns-in-Word-clause-stands g c = rw c.in-Word.is c.tell.ensures.stands
