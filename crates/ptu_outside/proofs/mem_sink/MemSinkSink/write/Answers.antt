use Rattle.std.proofs.Common.{rules}
use Rattle.ptu_outside.proofs.mem_sink.MemSinkSink.write.Goals.{then-contains-via-then-contains, then-contains-via-else-contains+then-is_err}
use Rattle.ptu_outside.proofs.mem_sink.MemSinkSink.write.Goals as goal

pub returns-then-contains-clause-fits : goal.returns-then-contains-clause-fits
returns-then-contains-clause-fits c =
    elim c.then-contains.branch [
      | then-contains-via-then-contains w ↦ λ unlisted fits. absurd (unlisted (search rules))
      | then-contains-via-else-contains+then-is_err w ↦ λ unlisted fits. search rules
    ]
