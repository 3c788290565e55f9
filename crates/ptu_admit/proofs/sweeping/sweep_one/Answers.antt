use Rattle.std.proofs.Common.{arith, ltb}
use Rattle.ptu_admit.proofs.Sums.{share_of-left}
use Rattle.ptu_admit.proofs.sweeping.sweep_one.Goals as goal

pub settle-requires-clause-fits : goal.settle-requires-clause-fits
settle-requires-clause-fits g c = omega (arith, c.held.ensures.share, c.held-before.ensures.share, share_of-left (λ row. ltb c.args.at row.lease.until) c.args.shard.now.rows c.sweep.new.self.rows c.sweep.ensures.rows)

pub returns-clause-less : goal.returns-clause-less
returns-clause-less g c = share_of-left (λ row. ltb c.args.at row.lease.until) c.args.shard.now.rows c.sweep.new.self.rows c.sweep.ensures.rows
