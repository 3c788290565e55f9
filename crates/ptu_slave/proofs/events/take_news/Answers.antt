use Rattle.std.proofs.Common.{◌∙◌, ap}
use Rattle.ptu_slave.specs.Kept.{Kept}
use Rattle.ptu_slave.proofs.Happening.{same_length, told}
use Rattle.ptu_slave.proofs.events.take_news.Goals as goal

pub returns-clause-judge : goal.returns-clause-judge
returns-clause-judge g c = (
  c.judge_news-unusable.result,
  rw (← c.begin-at.ensures.at) c.judge_news-unusable.ensures.calls,
  told c.args.core.now c.begin-at.new.self c.judged.new.self c.args.t c.begin-at.result c.begin-at.ensures.at c.begin-at.ensures.rest
      (c.judged.ensures.rest ∙ ap (λ (k : Kept). record k { selector = c.judged.new.self.selector }) c.news.ensures.rest) _ _ c.args.master c.args.news
      c.judge_news-unusable.result c.news.new.self c.judge_news-unusable.ensures.judged c.news.ensures.selects c.judged.ensures.selects
      (same_length _ _ _ c.judge_news-unusable.ensures.length),
)
