use Rattle.std.proofs.Common.{rules, ◌≡◌, ◌∙◌, true, false, Err, refl, sym, ap, subst, [], ◌++◌, arith}
use Rattle.std.proofs.lemmas.Result.{err_from_is_err_and}
use Rattle.ptu_outside.proofs.Putting.{HasPutPart-none}
use Rattle.ptu_lines.proofs.Giving.{Gives-append, Gives-none}
use Rattle.ptu_report.specs.{declared.stop.Stop.TheVariants.{Read}, Reported.{HasReportedAllRead}}
use Rattle.ptu_report.proofs.Underway.{Progress-start, all_read, ended, few_taken, in_part, means_last, one_more}
use Rattle.ptu_report.proofs.driver.report.Goals as goal

pub returns-in_err-reader-clause-bounded : goal.returns-in_err-reader-clause-bounded
returns-in_err-reader-clause-bounded g c = record { taken = search rules; ends = search rules }

pub returns-in_err-reader-clause-part : goal.returns-in_err-reader-clause-part
returns-in_err-reader-clause-part g c =
    let e = err_from_is_err_and c.from_residual.result c.from_residual.ensures.1 in
    rw e.1 (λ m st input told. HasPutPart-none g.K.Sink.written g.K.Sink.handed c.args.sink.now _)

pub lines-init : goal.lines-init
lines-init g c =
    let fresh = c.in_ok-reader.ensures in
    record {
      means = c.requires.means;
      in_step = λ h. absurd (let never : true ≡ false = sym h ∙ fresh.is_ended in cc);
      source_still = refl;
      sink_still = refl;
      ends_so = λ h. h;
      gives = ([], Gives-none c.in_ok-reader.reader (g.S.Source.left c.args.source.now));
      progress = λ m st. Progress-start g.K.Sink.written g.K.Sink.handed g.R.Reporter.rules (g.R.Reporter.stands_for c.args.reporter.now) m c.in_ok-reader.reader (g.S.Source.left c.args.source.now) c.args.sink.now st;
    }

pub lines-preserved : goal.lines-preserved
lines-preserved g c =
    let one = c.in_ok-ended.ensures in
    let gone = rw c.in_default.is at (one.stepped c.lines.invariant.means.0 c.lines.invariant.means.1) in
    record {
      means = (gone.after, gone.stands_after);
      in_step = one.in_step;
      source_still = one.source_counts ∙ c.lines.invariant.source_still;
      sink_still = one.sink_counts ∙ c.lines.invariant.sink_still;
      ends_so = λ h. one.ends (c.lines.invariant.ends_so h);
      gives = (c.lines.invariant.gives.0 ++ one.gives.0, Gives-append c.in_ok-reader.reader c.lines.reader c.one_line.new.reader (g.S.Source.left c.args.source.now) (g.S.Source.left c.lines.source) (g.S.Source.left c.one_line.new.source) c.lines.invariant.gives.0 one.gives.0 c.lines.invariant.gives.1 one.gives.1);
      progress = λ m st.
          let p = c.lines.invariant.progress m st in
          one_more g.K.Sink.written g.K.Sink.handed g.R.Reporter.rules (g.R.Reporter.stands_for c.lines.reporter) m c.in_ok-reader.reader c.lines.reader (g.S.Source.left c.args.source.now) (g.S.Source.left c.lines.source) c.args.sink.now c.lines.sink c.in_ok-reader.ensures p (g.R.Reporter.stands_for c.one_line.new.reporter) c.one_line.new.reader (g.S.Source.left c.one_line.new.source) c.one_line.new.sink
          (rw c.in_default.is at (one.stepped p.after p.stands_now));
    }

pub returns-in_err-ended-clause-part : goal.returns-in_err-ended-clause-part
returns-in_err-ended-clause-part g c =
    let e = err_from_is_err_and c.from_residual-in_err-ended.result c.from_residual-in_err-ended.ensures.1 in
    rw e.1 (λ m st input told.
    let p = c.lines.invariant.progress m st in
    in_part g.K.Sink.written g.K.Sink.handed g.R.Reporter.rules (g.R.Reporter.stands_for c.lines.reporter) m c.in_ok-reader.reader c.lines.reader (g.S.Source.left c.args.source.now) (g.S.Source.left c.lines.source) c.args.sink.now c.lines.sink c.in_ok-reader.ensures p input told c.one_line.new.sink (c.in_err-ended.ensures.part p.after p.stands_now))

pub returns-in_err-ended-clause-all_read : goal.returns-in_err-ended-clause-all_read
returns-in_err-ended-clause-all_read g c = λ h m st.
    let e = err_from_is_err_and c.from_residual-in_err-ended.result c.from_residual-in_err-ended.ensures.1 in
    let failed = rw (e.1, e.2) at h in
    let read : c.in_err-ended.field-0.0 ≡ Read = cc failed in
    let p = c.lines.invariant.progress m st in
    subst (λ k. HasReportedAllRead g.K.Sink.written g.K.Sink.handed c.args.sink.now k g.R.Reporter.rules m (g.S.Source.left c.args.source.now) (g.S.Source.left c.one_line.new.source)) (sym (c.in_err-ended.ensures.nothing (ap (λ s. Err s) read)))
    (all_read g.K.Sink.written g.K.Sink.handed g.R.Reporter.rules (g.R.Reporter.stands_for c.lines.reporter) m c.in_ok-reader.reader c.lines.reader (g.S.Source.left c.args.source.now) (g.S.Source.left c.lines.source) c.args.sink.now c.lines.sink c.in_ok-reader.ensures p c.one_line.new.reader (g.S.Source.left c.one_line.new.source) (c.in_err-ended.ensures.stopped (ap (λ s. Err s) read)))

pub returns-in_err-ended-clause-bounded : goal.returns-in_err-ended-clause-bounded
returns-in_err-ended-clause-bounded g c = record {
  ends = search rules;
  taken = few_taken c.in_ok-reader.reader c.one_line.new.reader (g.S.Source.left c.args.source.now) (g.S.Source.left c.one_line.new.source) (c.lines.invariant.gives.0 ++ c.in_err-ended.ensures.gives.0) c.in_ok-reader.ensures
      (Gives-append c.in_ok-reader.reader c.lines.reader c.one_line.new.reader (g.S.Source.left c.args.source.now) (g.S.Source.left c.lines.source) (g.S.Source.left c.one_line.new.source) c.lines.invariant.gives.0 c.in_err-ended.ensures.gives.0 c.lines.invariant.gives.1 c.in_err-ended.ensures.gives.1) c.in_err-ended.ensures.bounded;
}

pub returns-in-Some-clause-whole : goal.returns-in-Some-clause-whole
returns-in-Some-clause-whole g c = λ m st input told.
    let p = c.lines.invariant.progress m st in
    ended g.K.Sink.written g.K.Sink.handed g.R.Reporter.rules (g.R.Reporter.stands_for c.lines.reporter) m c.in_ok-reader.reader c.lines.reader (g.S.Source.left c.args.source.now) (g.S.Source.left c.lines.source) c.args.sink.now c.lines.sink c.in_ok-reader.ensures p input told (g.R.Reporter.stands_for c.one_line.new.reporter) c.one_line.new.reader (g.S.Source.left c.one_line.new.source) c.one_line.new.sink c.in-Some.ending (rw c.in-Some.is at (c.in_ok-ended.ensures.stepped p.after p.stands_now))

pub returns-in-Some-clause-last : goal.returns-in-Some-clause-last
returns-in-Some-clause-last g c = λ whole m st input told.
    let p = c.lines.invariant.progress m st in
    means_last g.K.Sink.written g.K.Sink.handed g.R.Reporter.rules (g.R.Reporter.stands_for c.lines.reporter) m c.in_ok-reader.reader c.lines.reader (g.S.Source.left c.args.source.now) (g.S.Source.left c.lines.source) c.args.sink.now c.lines.sink c.in_ok-reader.ensures p input told (g.R.Reporter.stands_for c.one_line.new.reporter) c.one_line.new.reader (g.S.Source.left c.one_line.new.source) c.one_line.new.sink c.in-Some.ending (rw c.in-Some.is at (c.in_ok-ended.ensures.stepped p.after p.stands_now)) whole

pub returns-in-Some-clause-bounded : goal.returns-in-Some-clause-bounded
returns-in-Some-clause-bounded g c = record {
  ends = search rules;
  taken = few_taken c.in_ok-reader.reader c.one_line.new.reader (g.S.Source.left c.args.source.now) (g.S.Source.left c.one_line.new.source) (c.lines.invariant.gives.0 ++ c.in_ok-ended.ensures.gives.0) c.in_ok-reader.ensures
      (Gives-append c.in_ok-reader.reader c.lines.reader c.one_line.new.reader (g.S.Source.left c.args.source.now) (g.S.Source.left c.lines.source) (g.S.Source.left c.one_line.new.source) c.lines.invariant.gives.0 c.in_ok-ended.ensures.gives.0 c.lines.invariant.gives.1 c.in_ok-ended.ensures.gives.1) c.in_ok-ended.ensures.bounded;
}
