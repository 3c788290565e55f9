use Rattle.std.proofs.Common.{[], ◌∷◌, ◌++◌}
use Rattle.ptu_slave.specs.Parts.{news_entry}
use Rattle.ptu_slave.proofs.{Assessing.{judged_at, news_of}, Calling.{of_one}}
use Rattle.ptu_slave.proofs.judging.judge_news.Goals as goal

pub returns-clause-judged : goal.returns-clause-judged
returns-clause-judged g c =
    judged_at _ c.args.judges.now.items c.args.at c.args.master (news_entry c.args.news c.args.at c.args.master) c.index_mut-judge.result.now c.ask.new.judge c.ask.result c.requires c.index_mut-judge.ensures.value
    (news_of c.args.news c.args.at c.args.master)
    (λ opening own h. c.ask.ensures.found opening (own ++ news_entry c.args.news c.args.at c.args.master ∷ []) (c.give.ensures.stands opening own c.args.master h))
    (λ opening own h. c.ask.ensures.judge opening (own ++ news_entry c.args.news c.args.at c.args.master ∷ []) c.args.master (c.give.ensures.stands opening own c.args.master h))

pub returns-clause-calls : goal.returns-clause-calls
returns-clause-calls g c =
    of_one _ c.args.judges.now.items c.args.master c.index_mut-judge.result.now c.ask.new.judge c.requires c.index_mut-judge.ensures.value
    (c.give.new.judge, (c.give.ensures.call, c.ask.ensures.call))
