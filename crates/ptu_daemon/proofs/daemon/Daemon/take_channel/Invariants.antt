use Rattle.ptu_daemon.proofs.daemon.Daemon.take_channel.Given as goal
use Rattle.ptu_daemon.proofs.Channels.{IsTaking}

abbrev pub invariant-loop : goal.invariant-loop
invariant-loop g l = IsTaking g.P.Port g.C.Clock l.channel l.initial.self l.self l.counter l.tally
