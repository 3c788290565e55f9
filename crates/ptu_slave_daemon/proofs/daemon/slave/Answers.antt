use Rattle.std.proofs.Common.{[], rules}
use Rattle.ptu_outside.proofs.Putting.{HasPutPart-none}
use Rattle.ptu_slave_daemon.proofs.daemon.slave.Goals as goal

pub returns-in_default-clause-part : goal.returns-in_default-clause-part
returns-in_default-clause-part g c = ([], 0, 0, HasPutPart-none g.K.Sink.written g.K.Sink.handed c.args.sink.now _)

pub returns-in-Ok-written-clause-served : goal.returns-in-Ok-written-clause-served
returns-in-Ok-written-clause-served g c = (
  c.in-Ok.opened,
  c.in-Ok-run_over.back,
  c.in-Ok.ensures.opened,
  search rules,
  rw c.in-Ok-written.is at c.in-Ok-run_over.ensures.served,
)

pub returns-in-Err-clause-stopped : goal.returns-in-Err-clause-stopped
returns-in-Err-clause-stopped g c = λ is. (
  c.in-Ok.opened,
  c.in-Ok-run_over.back,
  c.in-Ok.ensures.opened,
  search rules,
  rw c.in-Err.is at c.in-Ok-run_over.ensures.front,
)
