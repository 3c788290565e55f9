use Rattle.std.proofs.Common.{rules}
use Rattle.hex.specs.Hex.{encode_with}
use Rattle.ptu_lines.proofs.digits.Digits.new.Goals as goal

pub invariant_of-result : goal.invariant_of-result
unfolding encode_with
invariant_of-result c = search rules
