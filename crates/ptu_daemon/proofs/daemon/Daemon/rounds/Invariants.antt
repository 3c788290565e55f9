use Rattle.ptu_daemon.proofs.daemon.Daemon.rounds.Given as goal
use Rattle.ptu_daemon.proofs.Rounds.{IsGoing}

abbrev pub invariant-loop-before : goal.invariant-loop-before
invariant-loop-before g l = IsGoing g.P.Port g.C.Clock l.settings l.initial.self l.self l.initial.control l.control l.before l.tally
