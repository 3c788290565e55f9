use Rattle.std.proofs.Common.{◌≡◌, ◌||◌, nat_le, refl}
use Rattle.ptu_record.specs.{Record.{Judged}, Marks.{clear_count}}
use Rattle.ptu_judges.specs.Held.{gaps_held}
use Rattle.ptu_judges.proofs.Holding.{gaps_assessed, other_entry}
use Rattle.ptu_judges.proofs.gap_judge.GapJudgeJudge.assess.Goals.{then-self, else-self}
use Rattle.ptu_judges.proofs.gap_judge.GapJudgeJudge.assess.Goals as goal

pub returns-clause-assessed : goal.returns-clause-assessed
returns-clause-assessed c =
    let gaps = c.args.self.now in
    let is : c.if-self.result ≡ (gaps.flag || nat_le gaps.missing (clear_count gaps.marks)) =
    rw (← c.self.view_is) (elim c.if-self.branch [
      | then-self w ↦ rw (w.result-is, w.if-self.true) refl
      | else-self w ↦ rw (w.result-is, w.if-self.false, c.clear_count-clear.ensures) refl
    ]) in
    λ opening L. gaps_assessed opening L gaps c.if-self.result is

pub returns-clause-stands : goal.returns-clause-stands
returns-clause-stands c = λ opening L m. other_entry opening L (Judged c.args.t m c.if-self.result) (gaps_held c.args.self.now) refl refl refl refl
