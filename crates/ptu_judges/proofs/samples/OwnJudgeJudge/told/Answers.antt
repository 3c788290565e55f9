use Rattle.std.proofs.Common.{refl}
use Rattle.ptu_record.specs.Record.{Told}
use Rattle.ptu_judges.proofs.Holding.{unruled}
use Rattle.ptu_judges.proofs.samples.OwnJudgeJudge.told.Goals as goal

pub returns-clause-stands : goal.returns-clause-stands
returns-clause-stands c = λ opening L m. unruled opening L (Told c.args.t m c.args.unusable) _ _ refl refl refl
