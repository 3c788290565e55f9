use Rattle.ptu_daemon.proofs.daemon.Daemon.round.Goals as goal
use Rattle.ptu_daemon.proofs.Rounds.{did_round}

pub returns-clause-did : goal.returns-clause-did
returns-clause-did g c =
    rw (c.plus-3.ensures, c.plus-2.ensures, c.plus.ensures)
    (did_round g.P.Port g.C.Clock c.args.settings.now c.args.before c.args.self.now c.begin.new.self c.take_channel.new.self c.take_channel-2.new.self
    c.turn_tables-turned.new.self c.in_ok-begun.begun c.in_ok-general.general c.in_ok-event.event c.turn_tables-turned.result
    c.in_ok-begun.ensures.ran c.in_ok-general.ensures.took c.in_ok-event.ensures.took c.turn_tables-turned.ensures.ran)
