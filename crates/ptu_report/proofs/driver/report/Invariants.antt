use Rattle.std.proofs.Common.{◌≡◌, ◌≤◌, ◌-◌, List, ℕ}
use Rattle.ptu_lines.specs.Reading.{AgreesOnEnd, Gives, IsReadToEnd}
use Rattle.ptu_report.proofs.Underway.{Progress}
use Rattle.ptu_report.proofs.driver.report.Given as goal

abbrev pub invariant-lines : goal.invariant-lines
invariant-lines g l = record {
  means : (m : _) × g.R.Reporter.stands_for l.reporter m;
  in_step : AgreesOnEnd l.reader.is_ended (g.S.Source.left l.source);
  source_still : g.S.Source.faults l.source ≡ g.S.Source.faults l.initial.source;
  sink_still : g.K.Sink.faults l.sink ≡ g.K.Sink.faults l.initial.sink;
  ends_so : IsReadToEnd l.initial.reader.is_ended (g.S.Source.ends l.initial.source) → IsReadToEnd l.reader.is_ended (g.S.Source.ends l.source);
  gives : (lines : List (List ℕ)) × Gives l.initial.reader l.reader (g.S.Source.left l.initial.source) (g.S.Source.left l.source) lines;
  progress : (m : _) → g.R.Reporter.stands_for l.initial.reporter m
      → Progress g.K.Sink.written g.K.Sink.handed g.R.Reporter.rules (g.R.Reporter.stands_for l.reporter) m l.initial.reader l.reader (g.S.Source.left l.initial.source) (g.S.Source.left l.source) l.initial.sink l.sink;
}

abbrev pub decreases-lines : goal.decreases-lines
decreases-lines g l = 67108865 - l.reader.number
