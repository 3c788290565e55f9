use Rattle.std.proofs.{Common.{subst, sym, set, ◌<◌}, lemmas.List.{length-set}}
use Rattle.ptu_slave.proofs.Assessing.{anew_at, asked_at}
use Rattle.ptu_judges.specs.Calls.{WasAsked}
use Rattle.ptu_slave.proofs.Calling.{of_new}
use Rattle.ptu_slave.proofs.judging.judge_anew.Goals as goal

pub returns-clause-judged : goal.returns-clause-judged
returns-clause-judged g c =
    anew_at _ c.args.judges.now.items c.args.at c.args.master c.args.judge c.args.judge _ c.ask.result c.requires.master c.requires.fresh
    (asked_at _ (set c.args.judges.now.items c.args.master c.args.judge) c.args.at c.args.master c.index_mut-2.result.now c.ask.new.judge c.ask.result
    (subst (λ n. c.args.master < n) (sym (length-set c.args.judges.now.items c.args.master c.args.judge)) c.requires.master) c.index_mut-2.ensures.value
    c.ask.ensures.found c.ask.ensures.judge)

pub returns-clause-calls : goal.returns-clause-calls
returns-clause-calls g c =
    of_new (WasAsked (λ j. (goal.Judge-dyn g (j.vtable, j.value)).Conduct.finds j.value) c.args.at c.ask.result) c.args.judges.now.items c.args.master c.args.judge _ _ c.requires.master c.index_mut-2.ensures.value c.ask.ensures.call
