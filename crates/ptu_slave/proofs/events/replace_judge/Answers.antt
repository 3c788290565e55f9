use Rattle.ptu_slave.proofs.Happening.{replaced, same_length}
use Rattle.ptu_slave.proofs.events.replace_judge.Goals as goal

pub returns-clause-judge : goal.returns-clause-judge
returns-clause-judge g c = (
  c.judge_anew-unusable.result,
  rw (← c.begin-at.ensures.at) c.judge_anew-unusable.ensures.calls,
  replaced c.args.core.now c.begin-at.new.self c.judged.new.self c.args.t c.begin-at.result c.begin-at.ensures.at c.begin-at.ensures.rest c.judged.ensures.rest _ _
      c.args.master _ c.judge_anew-unusable.result c.judge_anew-unusable.ensures.judged c.judged.ensures.selects (same_length _ _ _ c.judge_anew-unusable.ensures.length),
)
