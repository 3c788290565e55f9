use Rattle.std.proofs.Common.{refl}
use Rattle.ptu_judges.proofs.Holding.{gaps_told}
use Rattle.ptu_judges.proofs.gap_judge.GapJudgeJudge.told.Goals as goal

pub returns-clause-stands : goal.returns-clause-stands
returns-clause-stands c = rw (← c.self.view_is) (λ opening L m. gaps_told opening L c.args.t m c.args.unusable _ _ refl refl refl)
