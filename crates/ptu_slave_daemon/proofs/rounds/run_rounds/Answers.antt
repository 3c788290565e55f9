use Rattle.std.proofs.Common.{[], ◌∷◌, ◌++◌, ◌+◌, ◌≡◌, ◌∙◌, None, arith, refl, sym}
use Rattle.std.proofs.lemmas.Result.{err_from_is_err_and}
use Rattle.ptu_outside.proofs.Putting.{HasPut-none, HasPutPart-whole}
use Rattle.ptu_slave_daemon.specs.{Happenings.{Selection, record_by_happenings}, Lines.{changes}}
use Rattle.ptu_slave_daemon.proofs.OneRound.{done_more, done_none}
use Rattle.ptu_slave_daemon.proofs.Written.{part_of_selection, said_after-push, selection_behind}
use Rattle.ptu_slave_daemon.proofs.rounds.run_rounds.Goals as goal

pub loop-before-init : goal.loop-before-init
loop-before-init g c =
    let none : c.default-counts.result.sent ≡ 0 = c.default-counts.ensures.0 in
    let none_failed : c.default-counts.result.failed ≡ 0 = c.default-counts.ensures.1 in
    record {
      few = (omega (arith, none), omega (arith, none_failed));
      sent = refl;
      still = refl;
      done = (
        [],
        refl,
        HasPut-none g.K.Sink.written g.K.Sink.handed c.args.sink.now,
        λ node L h. done_none g.P.Port.counts_once node L _ _ _ _ _ _ none none_failed h,
      );
    }

pub loop-before-preserved : goal.loop-before-preserved
loop-before-preserved g c =
    let done = c.loop-before.invariant.done in
    let s : Selection = record { round = c.loop-before.before + 1; master = c.in-Ok.master } in
    record {
      few = (omega (arith, c.loop-before.invariant.few, c.happen.ensures.grows), omega (arith, c.loop-before.invariant.few, c.happen.ensures.grows));
      sent = c.happen.ensures.sent ∙ c.loop-before.invariant.sent;
      still = c.in_ok-say.ensures.counts ∙ c.loop-before.invariant.still;
      done = (
        done.0 ++ s ∷ [],
        sym (said_after-push None done.0 s),
        selection_behind g.K.Sink.written g.K.Sink.handed c.args.sink.now c.loop-before.sink c.say.new.sink c.loop-before.said done.0 s done.1 done.2 c.in_ok-say.ensures.whole,
        λ node L h.
            let p = done.3 node L h in
            let q = c.in-Ok.ensures.ran node (record_by_happenings node L p.hs) (c.loop-before.before + 1) p.ran.stands in
            done_more g.P.Port.counts_once node L _ _ _ _ c.loop-before.before _ _ _ _ _ _ _ _ done.0 s c.loop-before.counts c.happen.new.counts q.0 q.1 q.2 q.3 q.4 q.5 q.6 p q.7 q.8 q.9 q.10 q.11,
      );
    }

pub returns-in_default-clause-part : goal.returns-in_default-clause-part
returns-in_default-clause-part g c =
    let done = c.loop-before.invariant.done in
    (changes None done.0, HasPutPart-whole g.K.Sink.written g.K.Sink.handed c.args.sink.now c.loop-before.sink _ done.2)

pub returns-in_err-say-clause-part : goal.returns-in_err-say-clause-part
returns-in_err-say-clause-part g c =
    let done = c.loop-before.invariant.done in
    let s : Selection = record { round = c.loop-before.before + 1; master = c.in-Ok.master } in
    let p = err_from_is_err_and c.from_residual.result c.from_residual.ensures.1 in
    rw p.1 (
      changes None (done.0 ++ s ∷ []),
      part_of_selection g.K.Sink.written g.K.Sink.handed c.args.sink.now c.loop-before.sink c.say.new.sink c.loop-before.said done.0 s done.1 done.2 c.in_err-say.ensures.part,
    )

pub returns-in_err-say-clause-stopped : goal.returns-in_err-say-clause-stopped
returns-in_err-say-clause-stopped g c = λ is.
    let done = c.loop-before.invariant.done in
    let s : Selection = record { round = c.loop-before.before + 1; master = c.in-Ok.master } in (
      c.loop-before.before + 1,
      done.0 ++ s ∷ [],
      c.happen.new.counts.sent,
      c.happen.new.counts.failed,
      omega (arith, c.loop-before-test.true),
      part_of_selection g.K.Sink.written g.K.Sink.handed c.args.sink.now c.loop-before.sink c.say.new.sink c.loop-before.said done.0 s done.1 done.2 c.in_err-say.ensures.part,
      λ node L h.
          let p = done.3 node L h in
          let q = c.in-Ok.ensures.ran node (record_by_happenings node L p.hs) (c.loop-before.before + 1) p.ran.stands in
          done_more g.P.Port.counts_once node L _ _ _ _ c.loop-before.before _ _ _ _ _ _ _ _ done.0 s c.loop-before.counts c.happen.new.counts q.0 q.1 q.2 q.3 q.4 q.5 q.6 p q.7 q.8 q.9 q.10 q.11,
    )

pub returns-clause-done : goal.returns-clause-done
returns-clause-done g c =
    let done = c.loop-before.invariant.done in
    let same : c.args.rounds ≡ c.loop-before.before = omega (arith, c.loop-before-test.false, c.loop-before.auto.before-end) in
    (done.0, done.2, λ node L h. rw same (done.3 node L h))
