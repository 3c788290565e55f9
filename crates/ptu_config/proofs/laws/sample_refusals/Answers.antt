use Rattle.std.proofs.Common.{refl}
use Rattle.ptu_config.specs.Rules.{setting_of}
use Rattle.ptu_config.proofs.laws.sample_refusals.Goals as goal

pub returns-clause-refused : goal.returns-clause-refused
unfolding setting_of
returns-clause-refused c = (refl, refl, refl)
