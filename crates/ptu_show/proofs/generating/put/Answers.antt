use Rattle.ptu_outside.proofs.Putting.{HasPutPart-front}
use Rattle.ptu_show.proofs.generating.put.Goals as goal

pub returns-in-Err-clause-part : goal.returns-in-Err-clause-part
returns-in-Err-clause-part g c = HasPutPart-front g.K.Sink.written g.K.Sink.handed c.args.sink.now c.write_whole.new.sink c.args.text.now c.in-Err.ensures.part
