use Rattle.std.proofs.Common.{◌∙◌, ap, map, sym, subst}
use Rattle.ptu_judges.specs.Held.{fresh}
use Rattle.ptu_profile.specs.Slave.{AreMasters}
use Rattle.ptu_slave_daemon.specs.Opening.{watched_master_of, judge_rule_of}
use Rattle.ptu_slave_daemon.proofs.Judges.{judges_fresh, judges_many, masters_are, opened_at}
use Rattle.ptu_slave.specs.Seen.{seen}
use Rattle.ptu_slave_daemon.proofs.opening.open_slave.Goals as goal

pub new-requires-clause-masters : goal.new-requires-clause-masters
new-requires-clause-masters g c =
    subst AreMasters (sym (c.in_ok-masters.ensures ∙ ap (map watched_master_of) c.list.ensures)) (masters_are c.args.settings.now c.requires.range.masters)

pub new-requires-clause-fresh : goal.new-requires-clause-fresh
new-requires-clause-fresh g c =
    judges_fresh (λ j. (goal.Judge-dyn g (j.vtable, j.value)).Judge.held j.value) c.in_ok-judges.judges.items c.list-2.result.now c.in_ok-judges.ensures

pub new-requires-clause-judges : goal.new-requires-clause-judges
new-requires-clause-judges g c =
    judges_many (λ j. (goal.Judge-dyn g (j.vtable, j.value)).Judge.held j.value) c.in_ok-judges.judges.items c.list-2.result.now c.in_ok-masters.masters.items c.in_ok-judges.ensures
    (c.in_ok-masters.ensures ∙ ap (map watched_master_of) (c.list.ensures ∙ sym c.list-2.ensures))

pub returns-clause-stands : goal.returns-clause-stands
returns-clause-stands g c =
    opened_at (λ j. (goal.Judge-dyn g (j.vtable, j.value)).Judge.held j.value) c.args.settings.now c.in_ok-judges.judges.items (seen (λ j. (goal.Judge-dyn g (j.vtable, j.value)).Judge.held j.value) c.in_ok-slave.slave).judges (seen (λ j. (goal.Judge-dyn g (j.vtable, j.value)).Judge.held j.value) c.in_ok-slave.slave).kept c.in_ok-masters.masters.items
    (c.in_ok-judges.ensures ∙ ap (map (λ m. fresh (judge_rule_of m))) c.list-2.ensures) c.in_ok-slave.ensures.judges
    (c.in_ok-slave.ensures.config ∙ c.new_config.ensures) (c.in_ok-masters.ensures ∙ ap (map watched_master_of) c.list.ensures) c.in_ok-slave.ensures.masters c.in_ok-slave.ensures.stands
