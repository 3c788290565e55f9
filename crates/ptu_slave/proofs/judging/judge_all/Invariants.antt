use Rattle.std.proofs.Common.{◌≡◌, Bool, List, length, map}
use Rattle.ptu_judges.specs.Calls.{OfAll, WasAsked}
use Rattle.ptu_slave.specs.Parts.{AllJudged}
use Rattle.ptu_slave.proofs.judging.judge_all.Given as goal

abbrev pub invariant-loop-master : goal.invariant-loop-master
invariant-loop-master g l = record {
  judged : (assessments : List Bool) × OfAll l.master (WasAsked (λ j. (goal.Judge-dyn g (j.vtable, j.value)).Conduct.finds j.value) l.fn.at) assessments l.initial.judges.items l.judges.items
      × AllJudged l.master l.fn.at
      (map (λ j. (goal.Judge-dyn g (j.vtable, j.value)).Judge.held j.value) l.initial.judges.items)
      (map (λ j. (goal.Judge-dyn g (j.vtable, j.value)).Judge.held j.value) l.judges.items)
      l.initial.core l.core assessments;
  long : length l.judges.items ≡ length l.initial.judges.items;
}
