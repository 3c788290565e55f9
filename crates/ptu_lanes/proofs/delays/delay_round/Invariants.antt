use Rattle.std.proofs.Common.{◌≡◌, ◌+◌, ◌≤◌}
use Rattle.ptu_lanes.specs.Waiting.{HasTaken}
use Rattle.ptu_lanes.proofs.delays.delay_round.Given as goal

abbrev pub invariant-loop-i : goal.invariant-loop-i
invariant-loop-i g l = record {
  none : l.delays.missed ≡ 0;
  few : l.delays.sent + l.delays.failed + l.delays.missed ≤ l._i;
  taken : HasTaken g.P.Port g.C.Clock l._i l.delays.missed l.initial.port l.port l.initial.clock l.clock;
}
