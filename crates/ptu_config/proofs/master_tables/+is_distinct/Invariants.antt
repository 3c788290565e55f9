use Rattle.std.proofs.Common.{length}
use Rattle.ptu_config.proofs.master_tables.+is_distinct.Given as goal

abbrev pub decreases-is_distinct : goal.decreases-is_distinct
decreases-is_distinct l = length l.masters.now
