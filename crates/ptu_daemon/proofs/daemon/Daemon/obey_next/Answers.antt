use Rattle.ptu_daemon.proofs.{Orders.{obeyed_none, obeyed_one}, Running.{ok_more}}
use Rattle.ptu_daemon.proofs.daemon.Daemon.obey_next.Goals as goal

pub returns-in-Some : goal.returns-in-Some
returns-in-Some g c =
    ok_more c.follow.result (λ obeyed f. obeyed_one g.P.Port g.C.Clock c.args.key c.args.before c.args.tally.now c.args.self.now c.follow.new.self
    c.args.port.now c.next_order.new.port c.follow.new.port c.in-Some.order obeyed c.in-Some.ensures f) c.follow.ensures

pub returns-in-None : goal.returns-in-None
returns-in-None g c =
    obeyed_none g.P.Port g.C.Clock c.args.key c.args.before c.args.tally.now c.args.self.now c.args.port.now c.next_order.new.port c.nothing.result
    c.in-None.ensures c.nothing.ensures.tally c.nothing.ensures.stops
