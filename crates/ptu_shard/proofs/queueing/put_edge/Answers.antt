use Rattle.ptu_shard.specs.Queue.{edge_entry}
use Rattle.ptu_shard.proofs.Filling.{one_put, own_put}
use Rattle.ptu_shard.proofs.queueing.put_edge.Goals as goal

pub returns-else-is_full-clause-own : goal.returns-else-is_full-clause-own
returns-else-is_full-clause-own c = λ turned h.
    own_put c.args.edges.now.entries c.push.new.self.entries c.edge_of.result (edge_entry c.args.row.now) c.push.ensures.entries c.edge_of.ensures

pub returns-else-is_full-clause-kept : goal.returns-else-is_full-clause-kept
returns-else-is_full-clause-kept c = λ r h turned k. one_put c.args.edges.now.entries c.push.new.self.entries c.edge_of.result (edge_entry r) c.push.ensures.entries k
