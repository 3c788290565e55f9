use Rattle.std.proofs.lemmas.Result.{err_from_is_err_and}
use Rattle.ptu_outside.proofs.Putting.{HasPutPart-none}
use Rattle.ptu_report.proofs.driver.refuse.Goals as goal

pub returns-in_err-refuse-clause-part : goal.returns-in_err-refuse-clause-part
returns-in_err-refuse-clause-part g c =
    let p = err_from_is_err_and c.from_residual.result c.from_residual.ensures.1 in
    rw p.1 (HasPutPart-none g.K.Sink.written g.K.Sink.handed c.args.sink.now _)
