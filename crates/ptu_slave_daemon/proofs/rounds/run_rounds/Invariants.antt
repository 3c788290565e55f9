use Rattle.std.proofs.Common.{◌≡◌, ◌*◌, ◌^◌, ◌≤◌, List, None, map}
use Rattle.ptu_outside.specs.Handing.{HasPut}
use Rattle.ptu_slave.specs.Seen.{seen}
use Rattle.ptu_slave_daemon.specs.{Happenings.{Selection}, Lines.{changes, selected_line, slave_texts}}
use Rattle.ptu_slave_daemon.specs.Running.{RoundsDone, Went}
use Rattle.ptu_slave_daemon.proofs.Written.{said_after}
use Rattle.ptu_slave_daemon.proofs.rounds.run_rounds.Given as goal

abbrev pub invariant-loop-before : goal.invariant-loop-before
invariant-loop-before g l = record {
  few : (l.counts.sent ≤ l.before * 2 ^ 65) × (l.counts.failed ≤ l.before * 2 ^ 65);
  sent : g.P.Port.sent l.event ≡ g.P.Port.sent l.fn.event;
  still : g.K.Sink.faults l.sink ≡ g.K.Sink.faults l.fn.sink;
  done : (selections : List Selection) × (l.said ≡ said_after None selections)
      × HasPut g.K.Sink.written g.K.Sink.handed l.fn.sink l.sink (slave_texts (map selected_line (changes None selections)))
      × Went g.P.Port g.C.Clock (seen (λ j. (goal.Judge-dyn g (j.vtable, j.value)).Judge.held j.value) l.fn.slave) (seen (λ j. (goal.Judge-dyn g (j.vtable, j.value)).Judge.held j.value) l.slave)
      l.fn.clock l.clock l.fn.event l.event (RoundsDone g.P.Port.counts_once l.before selections l.counts.sent l.counts.failed);
}
