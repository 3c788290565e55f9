use Rattle.ptu_record.specs.Step.{Stop}
use Rattle.ptu_slave.specs.Seen.{seen}
use Rattle.ptu_lab.proofs.SlaveEvents.{plainly_ended}
use Rattle.ptu_lab.proofs.slave_node.SlaveNode.stop.Goals as goal

pub returns-clause-done : goal.returns-clause-done
returns-clause-done g c =
    plainly_ended c.conclude.result c.args.self.now.ip c.conclude.new.self.ip c.args.at Stop (seen (λ j. (goal.Judge-dyn g (j.vtable, j.value)).Judge.held j.value) c.args.self.now.slave) (seen (λ j. (goal.Judge-dyn g (j.vtable, j.value)).Judge.held j.value) c.stop.new.slave) (seen (λ j. (goal.Judge-dyn g (j.vtable, j.value)).Judge.held j.value) c.conclude.new.self.slave) c.args.journal.now c.conclude.new.journal
    c.conclude.ensures.ip c.conclude.ensures.core c.conclude.ensures.judges (c.in_ok-stop.ensures c.args.self.now.ip) c.conclude.ensures.cleared c.conclude.ensures.noted
