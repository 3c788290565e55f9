use Rattle.std.proofs.{Common.{◌∙◌, ◌∷◌, [], ap}, lemmas.Result.{on_ok_weaker}}
use Rattle.ptu_report_lines.specs.declared.statement.Statement.TheVariants.{Selected}
use Rattle.ptu_nodes.specs.Noted.{with_said}
use Rattle.ptu_lab.proofs.slave_node.SlaveNode.say_selected.Goals as goal

pub returns-clause-says : goal.returns-clause-says
returns-clause-says g c = on_ok_weaker c.say.result
    (λ is openings L h. is ∙ ap (λ a. with_said (Selected c.args.self.now.ip a ∷ []) c.args.journal.now) (c.selected-master.ensures.selected openings L h))
    c.say.ensures
