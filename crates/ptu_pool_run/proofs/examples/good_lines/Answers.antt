use Rattle.std.proofs.Common.{refl}
use Rattle.hex.specs.Hex.{decode_pairs}
use Rattle.ptu_pool_run.specs.Command.{pool_command_of, pool_fields_in}
use Rattle.ptu_pool_run.proofs.examples.good_lines.Goals as goal

pub returns-clause-rx : goal.returns-clause-rx
unfolding decode_pairs pool_command_of pool_fields_in
returns-clause-rx c = refl
