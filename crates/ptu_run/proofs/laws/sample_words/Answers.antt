use Rattle.std.proofs.Common.{refl}
use Rattle.clap.proofs.OnLiterals.{clap_on_literals}
use Rattle.ptu_run.specs.CommandLine.{words_command_of}
use Rattle.ptu_run.proofs.laws.sample_words.Goals as goal

pub returns : goal.returns
unfolding clap_on_literals words_command_of
returns c = (refl, refl, refl, refl, refl, refl, refl, refl, refl, refl)
