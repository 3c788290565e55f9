use Rattle.ptu_trail.proofs.Living.{shed_one}
use Rattle.ptu_trail.proofs.trail.drop_shed.Goals as goal

pub loop-one-preserved : goal.loop-one-preserved
loop-one-preserved c = λ history n at known live.
    shed_one history n at c.args.shed.now c.loop-one.one-index _ c.loop-one-test.true c.lease.result c.loop-one.live c.remove.new.self (c.lease.ensures history n known) (c.loop-one.invariant history n at known live) c.remove.ensures
