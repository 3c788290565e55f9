use Rattle.std.proofs.Common.{refl}
use Rattle.std.specs.Fmt.{digits}
use Rattle.hex.specs.Hex.{encode_with}
use Rattle.ptu_pool_run.proofs.examples.lines_of_output.Goals as goal

pub returns-clause-sent : goal.returns-clause-sent
unfolding digits encode_with
returns-clause-sent c = refl

pub returns-clause-stranger : goal.returns-clause-stranger
unfolding digits
returns-clause-stranger c = refl

pub returns-clause-bad : goal.returns-clause-bad
unfolding digits
returns-clause-bad c = refl

pub returns-clause-over : goal.returns-clause-over
unfolding digits
returns-clause-over c = refl

pub returns-clause-end : goal.returns-clause-end
unfolding digits
returns-clause-end c = refl
