use Rattle.std.proofs.Common.{◌∙◌, ◌∷◌, ◌++◌, [], ap, subst, sym}
use Rattle.ptu_profile.specs.Slave.{AreMasters}
use Rattle.ptu_slave.specs.Seen.{seen}
use Rattle.ptu_slave.proofs.Adding.{fresh_pushed, held_pushed, stands_held}
use Rattle.ptu_slave.proofs.slave.Slave.with_master.Goals as goal

pub new-requires-clause-masters : goal.new-requires-clause-masters
unfolding seen
new-requires-clause-masters g c =
    subst AreMasters (sym (c.in_ok-masters.ensures ∙ ap (λ ms. ms ++ c.args.master ∷ []) c.masters.ensures.masters)) c.requires.masters

pub new-requires-clause-fresh : goal.new-requires-clause-fresh
unfolding seen
new-requires-clause-fresh g c =
    fresh_pushed _ c.args.self.judges.items c.push.new.self.items c.args.judge c.in_ok-push.ensures.items c.requires.fresh

pub returns-clause-judges : goal.returns-clause-judges
unfolding seen
returns-clause-judges g c =
    c.in_ok-slave.ensures.judges ∙ held_pushed _ c.args.self.judges.items c.push.new.self.items c.args.judge c.in_ok-push.ensures.items

pub returns-clause-stands : goal.returns-clause-stands
unfolding seen
returns-clause-stands g c =
    stands_held (λ j. (goal.Judge-dyn g (j.vtable, j.value)).Judge.held j.value) c.push.new.self.items _ _ c.in_ok-slave.ensures.judges c.in_ok-slave.ensures.stands
