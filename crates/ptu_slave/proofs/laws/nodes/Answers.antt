use Rattle.ptu_slave.proofs.Nodes.{node_replies}
use Rattle.ptu_slave.proofs.laws.nodes.Goals as goal

pub returns-clause-replies : goal.returns-clause-replies
returns-clause-replies c = node_replies
