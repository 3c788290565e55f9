use Rattle.ptu_run.proofs.Matching.{refused, unnamed}
use Rattle.ptu_run.proofs.laws.matched_words.Goals as goal

pub returns : goal.returns
returns c = λ words. (unnamed words, refused words)
