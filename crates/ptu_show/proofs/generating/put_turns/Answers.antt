use Rattle.std.proofs.Common.{◌≡◌, ◌∙◌, ◌+◌, ◌-◌, ◌<◌, ◌≤◌, ◌∷◌, [], sym, subst, refl, arith}
use Rattle.std.specs.List.{flat_map}
use Rattle.std.proofs.lemmas.{List.{append-nil}, List.Concat.{flat_map-append}}
use Rattle.std.proofs.lemmas.Result.{err_from_is_err_and}
use Rattle.ptu_outside.specs.Handing.{HasPut, HasPutPart}
use Rattle.ptu_outside.proofs.Putting.{HasPut-none}
use Rattle.ptu_show.specs.Generated.{turn_lines, turn_lines_at}
use Rattle.ptu_show.proofs.Writing.{wrote_more, wrote_part}
use Rattle.ptu_show.proofs.generating.put_turns.Goals as goal

pub loop-second-init : goal.loop-second-init
unfolding turn_lines
loop-second-init g c = record { put = HasPut-none g.K.Sink.written g.K.Sink.handed c.args.sink.now; still = refl }

pub loop-second-preserved : goal.loop-second-preserved
unfolding turn_lines
loop-second-preserved g c =
    let W = g.K.Sink.written in
    let H = g.K.Sink.handed in
    let k = c.loop-second.second in
    let low : 1 ≤ k = c.loop-second.auto.second in
    let next : k + 1 - 1 ≡ k - 1 + 1 = omega (arith, low) in
    let one : turn_lines_at k ≡ flat_map turn_lines_at (k ∷ []) = sym (append-nil (turn_lines_at k)) in
    record {
      put = subst (λ n. HasPut W H c.args.sink.now c.put_turns_at.new.sink (turn_lines n)) (sym next)
          (wrote_more W H (flat_map turn_lines_at) (flat_map-append turn_lines_at) c.args.sink.now c.loop-second.sink c.put_turns_at.new.sink 1 (k - 1) k (omega (arith, low))
          c.loop-second.invariant.put (subst (HasPut W H c.loop-second.sink c.put_turns_at.new.sink) one c.in_ok-put_turns_at.ensures.whole));
      still = c.in_ok-put_turns_at.ensures.counts ∙ c.loop-second.invariant.still;
    }

pub returns-in_err-put_turns_at-clause-part : goal.returns-in_err-put_turns_at-clause-part
unfolding turn_lines
returns-in_err-put_turns_at-clause-part g c =
    let W = g.K.Sink.written in
    let H = g.K.Sink.handed in
    let k = c.loop-second.second in
    let low : 1 ≤ k = c.loop-second.auto.second in
    let below : k < 9 = c.loop-second-test.true in
    let p = err_from_is_err_and c.from_residual.result c.from_residual.ensures.1 in
    let one : turn_lines_at k ≡ flat_map turn_lines_at (k ∷ []) = sym (append-nil (turn_lines_at k)) in
    rw p.1 (wrote_part W H (flat_map turn_lines_at) (flat_map-append turn_lines_at) c.args.sink.now c.loop-second.sink c.put_turns_at.new.sink 1 8 (k - 1) k (omega (arith, low))
    (omega (arith, low, below)) c.loop-second.invariant.put
    (subst (HasPutPart W H c.loop-second.sink c.put_turns_at.new.sink) one c.in_err-put_turns_at.ensures.part))

pub returns-clause-whole : goal.returns-clause-whole
returns-clause-whole g c =
    let last : c.loop-second.second - 1 ≡ 8 = omega (arith, c.loop-second.auto, c.loop-second-test.false) in
    subst (λ n. HasPut g.K.Sink.written g.K.Sink.handed c.args.sink.now c.loop-second.sink (turn_lines n)) last c.loop-second.invariant.put
