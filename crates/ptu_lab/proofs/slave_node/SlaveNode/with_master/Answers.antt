use Rattle.ptu_profile.specs.declared.slave.Master.{Master}
use Rattle.ptu_slave.specs.Seen.{seen}
use Rattle.ptu_lab.proofs.SlaveMasters.{judges_fresh, master_added, masters_more}
use Rattle.ptu_lab.proofs.slave_node.SlaveNode.with_master.Goals as goal

pub with_master-requires-clause-masters : goal.with_master-requires-clause-masters
with_master-requires-clause-masters g c =
    let master : Master = record { ip = c.args.ip; priority = c.args.priority } in
    masters_more (seen (λ j. (goal.Judge-dyn g (j.vtable, j.value)).Judge.held j.value) c.args.self.slave).kept.masters master c.requires.means.1.distinct c.requires.few c.requires.other

pub with_master-requires-clause-fresh : goal.with_master-requires-clause-fresh
with_master-requires-clause-fresh g c =
    judges_fresh _ _ _ _ c.requires.means.0 _ c.requires.fresh.0 c.requires.means.1 c.requires.fresh.1

pub returns-clause-stands : goal.returns-clause-stands
returns-clause-stands g c = λ s rule h is.
    master_added c.args.self.ip c.args.ip c.args.priority _ _ _ _ _ _ _ s rule c.in_ok-slave.ensures.judges h is c.requires.few c.requires.other
    c.in_ok-slave.ensures.config c.in_ok-slave.ensures.masters c.in_ok-slave.ensures.port c.in_ok-slave.ensures.stands
