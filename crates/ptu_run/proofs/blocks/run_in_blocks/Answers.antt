use Rattle.std.proofs.Common.{lit<, refl}
use Rattle.ptu_run.proofs.blocks.run_in_blocks.Goals as goal

-- 67 is the fifth status
pub returns-clause-statuses : goal.returns-clause-statuses
returns-clause-statuses g c = (4, lit< tt, refl)
