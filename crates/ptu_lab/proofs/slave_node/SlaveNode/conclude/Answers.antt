use Rattle.std.proofs.{Common.{◌∙◌, ◌∷◌, [], ap}, lemmas.Result.{on_ok_weaker}}
use Rattle.ptu_outside.specs.MemoryPort.{MemoryPort}
use Rattle.ptu_nodes.specs.Noted.{with_handed, with_said}
use Rattle.ptu_slave.specs.Seen.{seen}
use Rattle.ptu_lab.specs.SlaveWords.{selection_by}
use Rattle.ptu_lab.proofs.slave_node.SlaveNode.conclude.Goals as goal

pub returns-clause-noted : goal.returns-clause-noted
unfolding seen
returns-clause-noted g c =
    on_ok_weaker c.say_selected.result (λ says openings L h.
    says openings L h
    ∙ ap (with_said (selection_by c.args.self.now.ip c.args.self.now.slave.core L c.args.at ∷ []))
    (c.in_ok-hand_over.ensures.noted
    ∙ ap (λ (p : MemoryPort). with_handed c.args.self.now.ip p.sent c.args.journal.now) c.port.ensures.value))
    c.say_selected.ensures.says
