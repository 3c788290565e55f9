use Rattle.ptu_slave_daemon.proofs.Judges.{enough_left, fresh_next, none_missing}
use Rattle.ptu_slave_daemon.proofs.opening.new_judges.Goals as goal

pub take_judge-requires-clause-some : goal.take_judge-requires-clause-some
take_judge-requires-clause-some g c = λ none.
    none_missing (λ j. (goal.Judge-dyn g (j.vtable, j.value)).Judge.held j.value) c.args.masters.now c.loop-master.master-index _ c.loop-master.stock.flags.items c.loop-master.stock.gaps.items
    c.loop-master-test.true c.loop-master.invariant.enough (rw c.rule.ensures at none)

pub loop-master-preserved : goal.loop-master-preserved
loop-master-preserved g c =
    let taken = rw c.rule.ensures at c.take_judge.ensures in record {
      judges = fresh_next (λ j. (goal.Judge-dyn g (j.vtable, j.value)).Judge.held j.value) c.loop-master.judges.items c.push.new.self.items c.take_judge.result c.args.masters.now c.loop-master.master-index _
          c.loop-master-test.true c.loop-master.invariant.judges c.in_ok-push.ensures.items taken.is_fresh;
      enough = enough_left (λ j. (goal.Judge-dyn g (j.vtable, j.value)).Judge.held j.value) c.args.masters.now c.loop-master.master-index _ c.loop-master.stock.flags.items c.loop-master.stock.gaps.items
          c.take_judge.new.stock.flags.items c.take_judge.new.stock.gaps.items c.take_judge.result c.loop-master-test.true c.loop-master.invariant.enough taken;
      stock = taken.stock;
    }
