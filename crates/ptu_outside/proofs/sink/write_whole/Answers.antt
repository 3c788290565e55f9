use Rattle.std.proofs.Common.{◌<◌, length, drop, arith, refl, ◌∙◌}
use Rattle.std.proofs.lemmas.{List.{take_rest, length-drop}, Result.{err_from_is_err_and}}
use Rattle.ptu_outside.proofs.Putting.{IsPutting-start, IsPutting-more, IsPutting-end, IsPutting-failed}
use Rattle.ptu_outside.proofs.sink.write_whole.Goals as goal

pub loop-at-init : goal.loop-at-init
loop-at-init g c = record {
  putting = IsPutting-start g.K.Sink.written g.K.Sink.handed c.args.text.now c.args.sink.now;
  still = refl;
}

pub loop-at-preserved : goal.loop-at-preserved
loop-at-preserved g c =
    let text = c.args.text.now in
    let at = c.loop-at.at in
    let took = rw (take_rest text at) at c.in_ok-at.ensures in
    let lt : at < length text = c.loop-at-test.true in
    let rest : 0 < length (drop at text) = omega (arith, length-drop at text) in
    record {
      putting = IsPutting-more g.K.Sink.written g.K.Sink.handed text at c.in_ok-at.field-0 c.args.sink.now c.loop-at.sink c.write.new.self
          c.loop-at.invariant.putting took.within (took.some rest) took.handed took.taken;
      still = took.still ∙ c.loop-at.invariant.still;
    }

pub returns-clause-whole : goal.returns-clause-whole
returns-clause-whole g c =
    IsPutting-end g.K.Sink.written g.K.Sink.handed c.args.text.now c.loop-at.at c.args.sink.now c.loop-at.sink c.loop-at.invariant.putting c.loop-at-test.false

pub returns-in_err-at-clause-part : goal.returns-in_err-at-clause-part
returns-in_err-at-clause-part g c =
    let p = err_from_is_err_and c.from_residual.result c.from_residual.ensures.1 in
    let failed = rw (take_rest c.args.text.now c.loop-at.at) at c.in_err-at.ensures in
    rw p.1 (IsPutting-failed g.K.Sink.written g.K.Sink.handed c.args.text.now c.loop-at.at c.args.sink.now c.loop-at.sink c.write.new.self
    c.loop-at.invariant.putting c.loop-at-test.true failed.handed failed.kept)
