use Rattle.ptu_outside.proofs.Putting.{HasPutPart-none}
use Rattle.ptu_show.proofs.generating.put_line.Goals as goal

pub returns-clause-part : goal.returns-clause-part
returns-clause-part g c = HasPutPart-none g.K.Sink.written g.K.Sink.handed c.args.sink.now _
