use Rattle.std.proofs.Common.{refl}
use Rattle.toml.proofs.OnLiterals.{toml_on_literals}
use Rattle.ptu_config.proofs.laws.text_of_a_grandmaster.Goals as goal

pub returns : goal.returns
unfolding toml_on_literals
returns c = refl
