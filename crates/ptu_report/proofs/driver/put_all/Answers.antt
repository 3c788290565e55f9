use Rattle.std.proofs.Common.{◌≡◌, ◌+◌, ◌<◌, ◌++◌, ℕ, suc, List, length, take, drop, get_or, ◌∙◌, sym, ap, subst, add-one, [], ◌∷◌, arith}
use Rattle.std.proofs.{Math.Seq.{take-suc, drop-cons}, lemmas.List.{take-append-drop}}
use Rattle.std.proofs.lemmas.Result.{err_from_is_err_and}
use Rattle.ptu_outside.specs.Handing.{HasPut, HasPutPart}
use Rattle.ptu_outside.proofs.Putting.{HasPut-append, HasPut-part, HasPutPart-append}
use Rattle.ptu_report.proofs.driver.put_all.Goals as goal

-- one text more
front_more : (xs : List (List ℕ)) (i : ℕ) (x : List ℕ) → i < length xs → x ≡ get_or xs i x → take (i + 1) xs ≡ take i xs ++ x ∷ []
front_more xs i x lt is =
    ap (λ n. take n xs) (add-one i) ∙ (take-suc xs i x lt ∙ ap (λ y. take i xs ++ y ∷ []) (sym is))

-- the texts so far, this one, and those behind it
split_at : (xs : List (List ℕ)) (i : ℕ) (x : List ℕ) → i < length xs → x ≡ get_or xs i x → xs ≡ take i xs ++ ((x ∷ []) ++ drop (suc i) xs)
split_at xs i x lt is =
    sym (take-append-drop i xs) ∙ ap (λ ys. take i xs ++ ys) (drop-cons xs i x lt ∙ ap (λ y. y ∷ drop (suc i) xs) (sym is))

pub texts-preserved : goal.texts-preserved
texts-preserved g c =
    let W = g.K.Sink.written in
    let H = g.K.Sink.handed in
    let i = c.texts.place in
    let x = c.text.result.now in
    let more = front_more c.args.texts.now i x (omega (arith, c.texts-test.true, c.count-place-end.ensures)) c.text.ensures in
    record {
      put = subst (HasPut W H c.args.sink.now c.put.new.sink) (sym more)
          (HasPut-append W H c.args.sink.now c.texts.sink c.put.new.sink (take i c.args.texts.now) (x ∷ []) c.texts.invariant.put c.in_ok-put.ensures.whole);
      still = c.in_ok-put.ensures.counts ∙ c.texts.invariant.still;
    }

pub returns-in_err-put-clause-part : goal.returns-in_err-put-clause-part
returns-in_err-put-clause-part g c =
    let W = g.K.Sink.written in
    let H = g.K.Sink.handed in
    let i = c.texts.place in
    let x = c.text.result.now in
    let p = err_from_is_err_and c.from_residual.result c.from_residual.ensures.1 in
    let parts = split_at c.args.texts.now i x (omega (arith, c.texts-test.true, c.count-place-end.ensures)) c.text.ensures in
    rw p.1 (subst (HasPutPart W H c.args.sink.now c.put.new.sink) (sym parts)
    (HasPut-part W H c.args.sink.now c.texts.sink c.put.new.sink (take i c.args.texts.now) ((x ∷ []) ++ drop (suc i) c.args.texts.now) c.texts.invariant.put
    (HasPutPart-append W H c.texts.sink c.put.new.sink (x ∷ []) (drop (suc i) c.args.texts.now) c.in_err-put.ensures.part)))
