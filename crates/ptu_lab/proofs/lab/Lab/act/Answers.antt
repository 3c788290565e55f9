use Rattle.std.proofs.Common.{true, refl, sym, rules}
use Rattle.ptu_slave.specs.Seen.{seen}
use Rattle.ptu_lab.proofs.LabNodes.{acted_stands, found_means, nobody}
use Rattle.ptu_lab.proofs.lab.Lab.act.Goals as goal

pub returns-in-None : goal.returns-in-None
returns-in-None g c = λ course stands.
    nobody _ _ _ _ course c.args.ip _ c.args.at c.args.act _ _ stands (sym c.in-None.ensures.value)

pub act-requires-clause-means : goal.act-requires-clause-means
act-requires-clause-means g c =
    found_means (λ n. seen (λ j. (goal.Judge-dyn g (j.vtable, j.value)).Judge.held j.value) n.slave) _ _ _ c.requires.means.0 c.args.ip c.in-Some.node.now c.requires.means.1 (sym c.in-Some.ensures.value)

pub returns-in_ok-refused-in-Some : goal.returns-in_ok-refused-in-Some
returns-in_ok-refused-in-Some g c = λ course stands.
    acted_stands _ _ _ _ _ _ (record c.args.self.now { nodes = c.get_mut.follows.lender c.act.new.self; stock = c.act.new.stock; journal = c.act.new.journal; has_begun = true })
    course c.args.ip c.args.at c.args.act c.in-Some.node.now c.act.new.self c.in_ok-refused-in-Some.refused
    stands (sym c.in-Some.ensures.value) (λ a begun w is. c.in_ok-refused-in-Some.ensures a begun w is)
    c.requires.empty ((c.get_mut.follows.holds c.act.new.self).3 (search rules)).0 refl
