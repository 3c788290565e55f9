use Rattle.std.proofs.Common.{◌≡◌, ◌∷◌, [], subst, rules}
use Rattle.ptu_outside.specs.Handing.{HasPut, HasPutPart}
use Rattle.ptu_outside.proofs.Putting.{HasPutPart-none, HasPutPart-whole}
use Rattle.ptu_lab.specs.Load.{summary}
use Rattle.ptu_show.proofs.Writing.{ok_or_err}
use Rattle.ptu_lab.proofs.loading.load.Goals as goal

pub returns-in_err-octets-clause-front : goal.returns-in_err-octets-clause-front
returns-in_err-octets-clause-front g c = HasPutPart-none g.K.Sink.written g.K.Sink.handed c.args.sink.now _

pub returns-in_err-done-clause-front : goal.returns-in_err-done-clause-front
returns-in_err-done-clause-front g c = HasPutPart-none g.K.Sink.written g.K.Sink.handed c.args.sink.now _

pub returns-clause-front : goal.returns-clause-front
returns-clause-front g c = HasPutPart-none g.K.Sink.written g.K.Sink.handed c.args.sink.now _

pub returns-in-Ok-clause-front : goal.returns-in-Ok-clause-front
returns-in-Ok-clause-front g c =
    let W = g.K.Sink.written in
    let H = g.K.Sink.handed in
    let text = summary c.args.number in
    let is : c.as_bytes.result.now ≡ text = search rules in
    let written = HasPut W H c.args.sink.now c.put.new.sink in
    let begun = HasPutPart W H c.args.sink.now c.put.new.sink in
    ok_or_err (written (c.as_bytes.result.now ∷ [])) (begun (c.as_bytes.result.now ∷ [])) (begun (text ∷ [])) c.put.result
    (λ put. HasPutPart-whole W H c.args.sink.now c.put.new.sink (text ∷ []) (subst (λ t. written (t ∷ [])) is put))
    (λ part. subst (λ t. begun (t ∷ [])) is part) c.put.ensures.whole c.put.ensures.part
