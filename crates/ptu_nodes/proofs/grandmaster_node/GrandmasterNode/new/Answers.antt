use Rattle.std.proofs.Common.{rules, refl, sym, ◌∙◌}
use Rattle.ptu_nodes.proofs.GrandmasterPorts.{idle_again}
use Rattle.ptu_nodes.proofs.grandmaster_node.GrandmasterNode.new.Goals as goal

pub returns-clause-stands : goal.returns-clause-stands
returns-clause-stands c =
    let port0 = idle_again c.new-gm.ensures.ports.0 c.idle_port.ensures.idle c.idle_port.ensures.sure in
    let port1 = idle_again c.new-gm.ensures.ports.1 c.idle_port-2.ensures.idle c.idle_port-2.ensures.sure in
    let port2 = idle_again c.new-gm.ensures.ports.2 c.idle_port-3.ensures.idle c.idle_port-3.ensures.sure in
    let port3 = idle_again c.new-gm.ensures.ports.3 c.idle_port-4.ensures.idle c.idle_port-4.ensures.sure in
    let port4 = idle_again c.new-gm.ensures.ports.4 c.idle_port-5.ensures.idle c.idle_port-5.ensures.sure in
    record {
      ip = refl;
      config = sym (c.new-gm.ensures.config ∙ c.config_of.ensures.value);
      stands = search (rules, c.new-gm.ensures.stands);
      idle = (port0.0, port1.0, port2.0, port3.0, port4.0);
      sure = (port0.1, port1.1, port2.1, port3.1, port4.1);
    }
