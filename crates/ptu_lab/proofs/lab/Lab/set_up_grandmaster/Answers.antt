use Rattle.std.proofs.Common.{refl}
use Rattle.ptu_slave.specs.Seen.{seen}
use Rattle.ptu_world.specs.World.{new_grandmaster, step}
use Rattle.ptu_lab.proofs.LabSettingUp.{is_refused, is_set_up}
use Rattle.ptu_lab.proofs.lab.Lab.set_up_grandmaster.Goals as goal

pub returns-in-Some-clause-made : goal.returns-in-Some-clause-made
unfolding step
returns-in-Some-clause-made g c = λ line course stands.
    is_refused (λ n. seen (λ j. (goal.Judge-dyn g (j.vtable, j.value)).Judge.held j.value) n.slave) _ _ _ course c.args.setup.now.ip (new_grandmaster c.args.setup.now) stands line _ _ c.in-Some.ensures

pub returns-clause-made : goal.returns-clause-made
unfolding step
returns-clause-made g c = λ line course stands.
    is_set_up (λ n. seen (λ j. (goal.Judge-dyn g (j.vtable, j.value)).Judge.held j.value) n.slave) _ _ _ course c.args.setup.now.ip (new_grandmaster c.args.setup.now) stands _ line _ c.in_default.ensures
    (c.new-node.ensures.ip, c.new-node.ensures.stands) (λ q. c.in_ok-insert.ensures.updates.0 q) refl refl
