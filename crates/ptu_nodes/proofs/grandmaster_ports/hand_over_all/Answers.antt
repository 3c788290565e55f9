use Rattle.std.proofs.lemmas.Result.{on_ok_weaker}
use Rattle.ptu_nodes.proofs.GrandmasterPorts.{hands_ports}
use Rattle.ptu_nodes.proofs.grandmaster_ports.hand_over_all.Goals as goal

pub returns-clause-handed : goal.returns-clause-handed
returns-clause-handed c =
    on_ok_weaker c.hand_over_port-5.result
    (hands_ports c.args.ip c.args.gm.now c.hand_over_port.new.gm c.hand_over_port-2.new.gm c.hand_over_port-3.new.gm c.hand_over_port-4.new.gm
    c.args.journal.now c.hand_over_port.new.journal c.hand_over_port-2.new.journal c.hand_over_port-3.new.journal c.hand_over_port-4.new.journal c.hand_over_port-5.new.journal
    c.in_ok-hand_over_port.ensures.cleared c.in_ok-hand_over_port-2.ensures.cleared c.in_ok-hand_over_port-3.ensures.cleared c.in_ok-hand_over_port-4.ensures.cleared
    c.in_ok-hand_over_port.ensures.handed c.in_ok-hand_over_port-2.ensures.handed c.in_ok-hand_over_port-3.ensures.handed c.in_ok-hand_over_port-4.ensures.handed)
    c.hand_over_port-5.ensures.handed
