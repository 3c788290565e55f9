use Rattle.std.proofs.Common.{ap, ◌∙◌}
use Rattle.ptu_record.specs.Selection.{selected_master}
use Rattle.ptu_profile.specs.Slave.{priorities, timeouts}
use Rattle.ptu_slave.proofs.Stepping.{moment_is}
use Rattle.ptu_slave.specs.Seen.{seen}
use Rattle.ptu_slave.proofs.slave.Slave.selected.Goals as goal

pub returns-clause-selected : goal.returns-clause-selected
unfolding seen
returns-clause-selected g c = λ openings L h.
    c.selected.ensures.selected L h.selects
    ∙ ap (selected_master (timeouts c.args.self.now.core.config) (priorities c.args.self.now.core.masters) L) (moment_is openings c.args.self.now.core _ L c.args.t h)
