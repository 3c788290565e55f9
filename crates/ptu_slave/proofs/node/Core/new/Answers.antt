use Rattle.ptu_slave.proofs.Entering.{fresh_counters}
use Rattle.ptu_slave.proofs.node.Core.new.Goals as goal

pub returns-clause-asks : goal.returns-clause-asks
returns-clause-asks c = record { requester = c.in_ok-requester.ensures.empty; counters = fresh_counters c.in_ok-counters.counters.items c.in_ok-counters.ensures.counted }
