use Rattle.ptu_nodes.proofs.GrandmasterPorts.{goes_on_lent}
use Rattle.ptu_nodes.proofs.grandmaster_ports.reserve.Goals as goal

pub returns-clause-goes_on : goal.returns-clause-goes_on
returns-clause-goes_on c = goes_on_lent c.args.port c.reserve.new.self c.args.gm.now
