use Rattle.std.proofs.lemmas.Bool.{le-ltb, lt-ltb}
use Rattle.ptu_trail.proofs.Judging.{judged_live, over_fault}
use Rattle.ptu_trail.proofs.trail.Trail.judge_change.Goals as goal

pub returns-then-capacity-total-clause-fault : goal.returns-then-capacity-total-clause-fault
returns-then-capacity-total-clause-fault c = λ opening history s.
    over_fault opening history c.args.at c.args.capacity c.args.shed.now c.args.self.now c.advance.new.self c.drop_shed.new.live c.total.result _ (lt-ltb c.args.capacity c.total.result c.if-capacity-total.true) c.if-at.false c.if-at-self.false c.advance.ensures c.drop_shed.ensures c.total.ensures.sum s

pub returns-clause-fault : goal.returns-clause-fault
returns-clause-fault c = λ opening history s.
    over_fault opening history c.args.at c.args.capacity c.args.shed.now c.args.self.now c.advance.new.self c.drop_shed.new.live c.total.result _ (le-ltb c.args.capacity c.total.result c.if-capacity-total.false) c.if-at.false c.if-at-self.false c.advance.ensures c.drop_shed.ensures c.total.ensures.sum s

pub returns-clause-live : goal.returns-clause-live
returns-clause-live c = λ opening history s.
    judged_live opening history c.args.at c.args.capacity c.args.shed.now c.args.self.now c.advance.new.self c.drop_shed.new.live s c.if-at-self.false c.advance.ensures c.drop_shed.ensures
