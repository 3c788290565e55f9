use Rattle.std.proofs.Common.{arith}
use Rattle.ptu_daemon.proofs.Orders.{ended_none}
use Rattle.ptu_daemon.proofs.daemon.Daemon.end_grants.Goals as goal

pub returns-then-cancels : goal.returns-then-cancels
returns-then-cancels g c = rw c.if-cancels.true c.change.ensures

pub returns-else-cancels : goal.returns-else-cancels
returns-else-cancels g c =
    rw c.if-cancels.false (record {
      ran = ended_none g.P.Port g.C.Clock c.args.self.now c.default.result c.default.ensures;
      small = (omega (arith, c.default.ensures.0), omega (arith, c.default.ensures.1));
    })
