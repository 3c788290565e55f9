use Rattle.std.proofs.Common.{refl}
use Rattle.ptu_record.specs.Record.{Judged}
use Rattle.ptu_judges.proofs.Holding.{unruled}
use Rattle.ptu_judges.proofs.samples.OwnJudgeJudge.assess.Goals as goal

pub returns-clause-stands : goal.returns-clause-stands
returns-clause-stands c = λ opening L m. unruled opening L (Judged c.args.t m _) _ _ refl refl refl
