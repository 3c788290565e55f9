use Rattle.std.proofs.Common.{◌≡◌, take}
use Rattle.ptu_outside.specs.Handing.{HasPut}
use Rattle.ptu_report.proofs.driver.put_all.Given as goal

abbrev pub invariant-texts : goal.invariant-texts
invariant-texts g l = record {
  put : HasPut g.K.Sink.written g.K.Sink.handed l.initial.sink l.sink (take l.place l.initial.texts);
  still : g.K.Sink.faults l.sink ≡ g.K.Sink.faults l.initial.sink;
}
