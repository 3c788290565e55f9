use Rattle.std.proofs.Common.{◌-◌}
use Rattle.ptu_config.proofs.Taking.{IsTaking}
use Rattle.ptu_config.proofs.octets.read_octets.Given as goal

abbrev pub invariant-loop-count : goal.invariant-loop-count
invariant-loop-count g l = IsTaking g.S.Source.left g.S.Source.ends g.S.Source.faults l.fn.source l.source l.octets.items l.count

abbrev pub decreases-loop-count : goal.decreases-loop-count
decreases-loop-count g l = 65537 - l.count
