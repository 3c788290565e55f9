use Rattle.std.proofs.Common.{sym, ◌∙◌}
use Rattle.ptu_record.specs.Step.{TellFlag}
use Rattle.ptu_world.specs.Slaves.{plain_deed}
use Rattle.ptu_slave.specs.Seen.{seen}
use Rattle.ptu_lab.proofs.LabNodes.{master_acts}
use Rattle.ptu_lab.proofs.slave_node.SlaveNode.flag.Goals as goal

pub returns-clause-acted : goal.returns-clause-acted
returns-clause-acted g c = master_acts (λ n. seen (λ j. (goal.Judge-dyn g (j.vtable, j.value)).Judge.held j.value) n.slave)
    c.args.self.now c.flag_at.new.self c.args.master _ (λ s m. plain_deed s c.args.at (TellFlag m c.args.unusable)) _ _ (sym c.place.ensures ∙ c.in-Some.is) c.in_ok-flag_at.ensures.done
