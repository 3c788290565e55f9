use Rattle.std.proofs.Common.{◌≡◌, [], ◌∷◌, ◌++◌, None, Err, ap, map, subst, sym}
use Rattle.std.proofs.lemmas.List.{map-append}
use Rattle.std.proofs.lemmas.Result.{err_from_is_err_and, on_err_weaker, on_ok_weaker}
use Rattle.ptu_outside.specs.Handing.{HasPutPart}
use Rattle.ptu_outside.proofs.Putting.{HasPutPart-append}
use Rattle.ptu_slave_daemon.specs.declared.line.SlaveLine.TheVariants.{Closing}
use Rattle.ptu_slave_daemon.specs.Happenings.{record_by_happenings}
use Rattle.ptu_slave_daemon.specs.Lines.{changes, slave_line_text, selected_line, slave_texts}
use Rattle.ptu_slave_daemon.specs.declared.halt.{Halt.{Halt}, Halt.TheVariants.{Write}}
use Rattle.ptu_slave_daemon.proofs.{Fronts.{front_rounds, front_run, of_err}, OneRound.{done_run}}
use Rattle.ptu_slave_daemon.proofs.Written.{part_behind, put_behind}
use Rattle.ptu_slave_daemon.proofs.rounds.run.Goals as goal

pub returns-clause-done : goal.returns-clause-done
returns-clause-done g c =
    let done = c.in_ok-counts.ensures.done in
    on_ok_weaker c.write_line.result (λ put. (
      done.0,
      c.stop.new.counts.sent,
      c.stop.new.counts.failed,
      put_behind g.K.Sink.written g.K.Sink.handed c.args.sink.now c.run_rounds.new.sink c.write_line.new.sink (map selected_line (changes None done.0)) (Closing c.args.rounds c.stop.new.counts.sent c.stop.new.counts.failed) done.1 put,
      λ node L h.
          let p = done.2 node L h in
          let t = c.stop.ensures.ran node (record_by_happenings node L p.hs) p.ran.stands in
          done_run g.P.Port.counts_once node L _ _ _ _ c.args.rounds _ _ _ _ _ _ done.0 c.in_ok-counts.counts c.stop.new.counts t.2 t.0 t.1 p t.3 c.stop.ensures.waiting t.4,
    )) c.write_line.ensures.whole

pub returns-clause-part : goal.returns-clause-part
returns-clause-part g c =
    let done = c.in_ok-counts.ensures.done in
    on_err_weaker c.write_line.result (λ part. (
      changes None done.0,
      c.stop.new.counts.sent,
      c.stop.new.counts.failed,
      part_behind g.K.Sink.written g.K.Sink.handed c.args.sink.now c.run_rounds.new.sink c.write_line.new.sink (map selected_line (changes None done.0)) (Closing c.args.rounds c.stop.new.counts.sent c.stop.new.counts.failed) done.1 part,
    )) c.write_line.ensures.part

pub returns-in_err-counts-clause-part : goal.returns-in_err-counts-clause-part
returns-in_err-counts-clause-part g c =
    let p = err_from_is_err_and c.from_residual.result c.from_residual.ensures.1 in
    let d = c.in_err-counts.ensures.part in
    let lines = map selected_line d.0 in
    let line = Closing c.args.rounds 0 0 in
    rw p.1 (
      d.0,
      0,
      0,
      subst (HasPutPart g.K.Sink.written g.K.Sink.handed c.args.sink.now c.run_rounds.new.sink) (sym (map-append slave_line_text lines (line ∷ [])))
          (HasPutPart-append g.K.Sink.written g.K.Sink.handed c.args.sink.now c.run_rounds.new.sink (slave_texts lines) (slave_texts (line ∷ [])) d.1),
    )

-- the sink failed in the closing line
pub returns-clause-stopped : goal.returns-clause-stopped
returns-clause-stopped g c = λ is.
    let done = c.in_ok-counts.ensures.done in (
      map selected_line (changes None done.0) ++ Closing c.args.rounds c.stop.new.counts.sent c.stop.new.counts.failed ∷ [],
      part_behind g.K.Sink.written g.K.Sink.handed c.args.sink.now c.run_rounds.new.sink c.write_line.new.sink (map selected_line (changes None done.0)) (Closing c.args.rounds c.stop.new.counts.sent c.stop.new.counts.failed) done.1
          (of_err c.write_line.result Write is c.write_line.ensures.part),
      λ node L h.
          let p = done.2 node L h in
          let t = c.stop.ensures.ran node (record_by_happenings node L p.hs) p.ran.stands in
          front_run g.P.Port.counts_once node L _ _ _ _ _ _ _ _ c.args.rounds done.0 c.stop.new.counts.sent c.stop.new.counts.failed
          (done_run g.P.Port.counts_once node L _ _ _ _ c.args.rounds _ _ _ _ _ _ done.0 c.in_ok-counts.counts c.stop.new.counts t.2 t.0 t.1 p t.3 c.stop.ensures.waiting t.4),
    )

-- it failed in the line of a round
pub returns-in_err-counts-clause-stopped : goal.returns-in_err-counts-clause-stopped
returns-in_err-counts-clause-stopped g c =
    let p = err_from_is_err_and c.from_residual.result c.from_residual.ensures.1 in
    rw (p.1, p.2) (λ is.
    let write : c.in_err-counts.field-0.0 ≡ Write = cc is in
    let d = c.in_err-counts.ensures.stopped (ap (λ (e : Halt). Err e) write) in
    (map selected_line (changes None d.1), d.5, λ node L h. front_rounds g.P.Port.counts_once node L _ _ _ _ _ _ _ _ d.0 c.args.rounds d.1 d.2 d.3 d.4 (d.6 node L h)))
