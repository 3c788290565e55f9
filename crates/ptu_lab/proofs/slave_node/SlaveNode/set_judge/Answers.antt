use Rattle.std.proofs.{Common.{Some, ap}, lemmas.Result.{on_ok_weaker}}
use Rattle.ptu_record.specs.Step.{ReplaceJudge}
use Rattle.ptu_slave_messages.specs.Node.{deed}
use Rattle.ptu_slave.specs.Seen.{Seen, seen}
use Rattle.ptu_lab.proofs.SlaveEvents.{quietly_ended, replaced}
use Rattle.ptu_lab.proofs.slave_node.SlaveNode.set_judge.Goals as goal
use Rattle.ptu_lab.proofs.SlaveMasters.{fresh_is}

pub set_judge-requires-clause-fresh : goal.set_judge-requires-clause-fresh
set_judge-requires-clause-fresh g c = fresh_is _ c.requires.fresh.0 c.requires.fresh.1

pub returns-clause-done : goal.returns-clause-done
returns-clause-done g c =
    on_ok_weaker c.say_selected.result (λ says begun s rule is h.
    quietly_ended c.args.self.now.ip c.say_selected.new.self.ip c.args.at (seen (λ j. (goal.Judge-dyn g (j.vtable, j.value)).Judge.held j.value) c.set_judge.new.self).kept (seen (λ j. (goal.Judge-dyn g (j.vtable, j.value)).Judge.held j.value) c.say_selected.new.self.slave).kept _ _ (seen (λ j. (goal.Judge-dyn g (j.vtable, j.value)).Judge.held j.value) c.args.self.now.slave).port (seen (λ j. (goal.Judge-dyn g (j.vtable, j.value)).Judge.held j.value) c.set_judge.new.self).port
    (seen (λ j. (goal.Judge-dyn g (j.vtable, j.value)).Judge.held j.value) c.say_selected.new.self.slave).port s (deed s.opened s.taken c.args.at (ReplaceJudge c.args.master (Some rule))) c.args.journal.now c.say_selected.new.journal
    c.say_selected.ensures.ip (ap (λ (s : Seen _ _). s.kept) c.say_selected.ensures.unchanged)
    (replaced c.args.self.now.ip (seen (λ j. (goal.Judge-dyn g (j.vtable, j.value)).Judge.held j.value) c.args.self.now.slave).kept (seen (λ j. (goal.Judge-dyn g (j.vtable, j.value)).Judge.held j.value) c.set_judge.new.self).kept _ _ _ (seen (λ j. (goal.Judge-dyn g (j.vtable, j.value)).Judge.held j.value) c.args.self.now.slave).port (seen (λ j. (goal.Judge-dyn g (j.vtable, j.value)).Judge.held j.value) c.set_judge.new.self).port begun s c.args.at c.args.master rule is h c.requires.place
    c.set_judge.ensures.same (c.set_judge.ensures.replaced.steps s.opened.openings s.taken h.stands) c.set_judge.ensures.replaced.port)
    (ap (λ (s : Seen _ _). s.judges) c.say_selected.ensures.unchanged) c.set_judge.ensures.replaced.port (ap (λ (s : Seen _ _). s.port) c.say_selected.ensures.unchanged) h.idle says)
    c.say_selected.ensures.says
