use Rattle.ptu_record.specs.Tick.{probe_moment}
use Rattle.ptu_record.proofs.ListLaws.{last-filter_map}
use Rattle.ptu_record.proofs.laws.ticks.Goals as goal

pub returns-clause-probe_more : goal.returns-clause-probe_more
returns-clause-probe_more c = last-filter_map probe_moment
