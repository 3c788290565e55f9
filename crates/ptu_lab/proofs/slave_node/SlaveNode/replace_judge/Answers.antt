use Rattle.std.proofs.Common.{Some, sym, ◌∙◌}
use Rattle.ptu_record.specs.Step.{ReplaceJudge}
use Rattle.ptu_world.specs.Slaves.{plain_deed}
use Rattle.ptu_slave.specs.Seen.{seen}
use Rattle.ptu_lab.proofs.LabNodes.{judge_acts}
use Rattle.ptu_lab.proofs.slave_node.SlaveNode.replace_judge.Goals as goal

pub returns-clause-acted : goal.returns-clause-acted
returns-clause-acted g c = judge_acts (λ n. seen (λ j. (goal.Judge-dyn g (j.vtable, j.value)).Judge.held j.value) n.slave)
    c.args.self.now c.set_judge.new.self c.args.master _ (λ s m. plain_deed s c.args.at (ReplaceJudge m (Some c.args.rule))) _ _ c.args.rule _ _ _ _ _
    (sym c.place.ensures ∙ c.in-Some.is) c.in-Some-take_judge.ensures (λ begun s is. c.in_ok-set_judge.ensures.done begun s c.args.rule c.in-Some-take_judge.ensures.is_fresh is)
