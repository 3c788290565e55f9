use Rattle.ptu_slave.proofs.{Assessing.{asked_at}, Calling.{of_one}}
use Rattle.ptu_slave.proofs.judging.judge_one.Goals as goal

pub returns-clause-asked : goal.returns-clause-asked
returns-clause-asked g c =
    asked_at _ c.args.judges.now.items c.args.at c.args.master c.index_mut.result.now c.ask.new.judge c.ask.result c.requires c.index_mut.ensures.value
    c.ask.ensures.found c.ask.ensures.judge

pub returns-clause-call : goal.returns-clause-call
returns-clause-call g c =
    of_one _ c.args.judges.now.items c.args.master c.index_mut.result.now c.ask.new.judge c.requires c.index_mut.ensures.value c.ask.ensures.call
