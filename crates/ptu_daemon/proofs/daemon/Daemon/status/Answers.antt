use Rattle.ptu_daemon.proofs.Orders.{stands_so}
use Rattle.ptu_daemon.proofs.daemon.Daemon.status.Goals as goal

pub returns : goal.returns
returns g c = λ opening past stood.
    stands_so opening past c.args.self.now.gm c.args.before c.args.tally.now c.status.result c.asked_of.result c.status.ensures.class
    (c.status.ensures.stands opening past stood) c.asked_of.ensures
