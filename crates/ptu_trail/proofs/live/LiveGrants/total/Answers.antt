use Rattle.std.proofs.Common.{◌∙◌, ap}
use Rattle.ptu_trail.specs.Live.{total_of}
use Rattle.ptu_trail.proofs.Living.{total_is}
use Rattle.ptu_trail.proofs.live.LiveGrants.total.Goals as goal

pub returns-clause-sum : goal.returns-clause-sum
returns-clause-sum c = λ grants same. c.self.invariant ∙ ap total_of c.self.view_is ∙ total_is grants c.args.self.now same
