use Rattle.std.proofs.{Common.{◌∙◌, [], ap, refl, subst, sym}, lemmas.Result.{on_ok_weaker}}
use Rattle.ptu_outside.specs.MemoryPort.{IsSure, MemoryPort}
use Rattle.ptu_record.specs.Step.{TellFlag}
use Rattle.ptu_slave_messages.specs.Node.{deed}
use Rattle.ptu_slave.specs.Seen.{Seen, seen}
use Rattle.ptu_lab.proofs.SlaveEvents.{quietly_ended, stepped}
use Rattle.ptu_lab.proofs.slave_node.SlaveNode.flag_at.Goals as goal

pub returns-clause-done : goal.returns-clause-done
returns-clause-done g c =
    on_ok_weaker c.say_selected.result (λ says begun s h.
    quietly_ended c.args.self.now.ip c.say_selected.new.self.ip c.args.at (seen (λ j. (goal.Judge-dyn g (j.vtable, j.value)).Judge.held j.value) c.flag.new.self).kept (seen (λ j. (goal.Judge-dyn g (j.vtable, j.value)).Judge.held j.value) c.say_selected.new.self.slave).kept _ _ (seen (λ j. (goal.Judge-dyn g (j.vtable, j.value)).Judge.held j.value) c.args.self.now.slave).port (seen (λ j. (goal.Judge-dyn g (j.vtable, j.value)).Judge.held j.value) c.flag.new.self).port
    (seen (λ j. (goal.Judge-dyn g (j.vtable, j.value)).Judge.held j.value) c.say_selected.new.self.slave).port s (deed s.opened s.taken c.args.at (TellFlag c.args.master c.args.unusable)) c.args.journal.now c.say_selected.new.journal
    c.say_selected.ensures.ip (ap (λ (s : Seen _ _). s.kept) c.say_selected.ensures.unchanged)
    (stepped c.args.self.now.ip (seen (λ j. (goal.Judge-dyn g (j.vtable, j.value)).Judge.held j.value) c.args.self.now.slave).kept (seen (λ j. (goal.Judge-dyn g (j.vtable, j.value)).Judge.held j.value) c.flag.new.self).kept _ _ (seen (λ j. (goal.Judge-dyn g (j.vtable, j.value)).Judge.held j.value) c.args.self.now.slave).port (seen (λ j. (goal.Judge-dyn g (j.vtable, j.value)).Judge.held j.value) c.flag.new.self).port begun s c.args.at (TellFlag c.args.master c.args.unusable)
    (deed s.opened s.taken c.args.at (TellFlag c.args.master c.args.unusable)) h (λ m is. absurd (cc is)) (c.requires, tt) c.flag.ensures.same (c.flag.ensures.flagged.steps s.opened.openings s.taken h.stands) refl
    (ap (λ (p : MemoryPort). p.sent) c.flag.ensures.flagged.port ∙ h.idle) (subst (λ p. IsSure p []) (sym c.flag.ensures.flagged.port) h.sure))
    (ap (λ (s : Seen _ _). s.judges) c.say_selected.ensures.unchanged) c.flag.ensures.flagged.port (ap (λ (s : Seen _ _). s.port) c.say_selected.ensures.unchanged) h.idle says)
    c.say_selected.ensures.says
