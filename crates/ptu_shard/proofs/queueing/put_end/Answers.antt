use Rattle.ptu_shard.specs.Queue.{end_entry}
use Rattle.ptu_shard.proofs.Filling.{one_put, own_put}
use Rattle.ptu_shard.proofs.queueing.put_end.Goals as goal

pub returns-else-is_full-clause-own : goal.returns-else-is_full-clause-own
returns-else-is_full-clause-own c = λ h.
    own_put c.args.ends.now.entries c.push.new.self.entries c.end_of.result (end_entry c.args.row.now) c.push.ensures.entries c.end_of.ensures

pub returns-else-is_full-clause-kept : goal.returns-else-is_full-clause-kept
returns-else-is_full-clause-kept c = λ r h k. one_put c.args.ends.now.entries c.push.new.self.entries c.end_of.result (end_entry r) c.push.ensures.entries k
