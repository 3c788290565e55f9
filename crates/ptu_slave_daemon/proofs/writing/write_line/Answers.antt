use Rattle.std.proofs.Common.{subst, [], ◌∷◌, ◌∙◌}
use Rattle.ptu_outside.specs.Handing.{HasPutPart}
use Rattle.ptu_outside.proofs.Putting.{HasPutPart-front, HasPutPart-none}
use Rattle.ptu_slave_daemon.specs.Lines.{slave_texts}
use Rattle.ptu_slave_daemon.proofs.writing.write_line.Goals as goal

pub returns-clause-part : goal.returns-clause-part
returns-clause-part g c =
    subst (λ text. HasPutPart g.K.Sink.written g.K.Sink.handed c.args.sink.now c.write_whole.new.sink (text ∷ [])) (c.as_bytes.ensures.value ∙ c.in-Ok.ensures)
    (HasPutPart-front g.K.Sink.written g.K.Sink.handed c.args.sink.now c.write_whole.new.sink c.as_bytes.result.now c.in-Err.ensures.part)

pub returns-in_default-clause-part : goal.returns-in_default-clause-part
returns-in_default-clause-part g c = HasPutPart-none g.K.Sink.written g.K.Sink.handed c.args.sink.now (slave_texts (c.args.line ∷ []))
