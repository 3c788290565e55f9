use Rattle.std.proofs.Common.{refl}
use Rattle.ptu_record.specs.Record.{Sync}
use Rattle.ptu_judges.proofs.Holding.{unruled}
use Rattle.ptu_judges.proofs.samples.OwnJudgeJudge.heard.Goals as goal

pub returns-clause-stands : goal.returns-clause-stands
returns-clause-stands c = λ opening L m. unruled opening L (Sync c.args.t m c.args.seq) _ _ refl refl refl
