use Rattle.std.proofs.Common.{◌≡◌, ◌≤◌, List, length}
use Rattle.ptu_lanes.specs.{Rounds.{Exchange, HasServed}, Waiting.{PassedBy}}
use Rattle.ptu_lanes.proofs.signaling.control_round.Given as goal

abbrev pub invariant-loop-i : goal.invariant-loop-i
invariant-loop-i g l = record {
  exchanges : List Exchange;
  many : length exchanges ≡ l._i;
  failed : l.control.failed ≤ l._i;
  moments : PassedBy l._i (g.C.Clock.moments l.initial.clock) (g.C.Clock.moments l.clock);
  served : HasServed g.P.Port g.L.Rates.most l.service.base.now.config.now exchanges l.initial.port l.port l.initial.seat l.seat l.control.asks l.control.sent l.control.failed 0;
}
