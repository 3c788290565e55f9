use Rattle.std.proofs.Common.{refl, arith}
use Rattle.ptu_judges.proofs.Holding.{gaps_heard}
use Rattle.ptu_judges.proofs.gap_judge.GapJudgeJudge.heard.Goals as goal

pub returns-clause-stands : goal.returns-clause-stands
returns-clause-stands c =
    rw (← c.self.view_is) (λ opening L m. gaps_heard opening L c.args.t m c.args.seq _ _ (omega (arith, c.ranges.seq.fits)) refl refl c.marks_with-top.ensures)
