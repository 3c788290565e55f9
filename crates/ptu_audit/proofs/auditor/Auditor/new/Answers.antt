use Rattle.std.proofs.Common.{refl}
use Rattle.ptu_audit.proofs.Closing.{nothing_read}
use Rattle.ptu_audit.proofs.auditor.Auditor.new.Goals as goal

pub returns : goal.returns
returns c = nothing_read _ c.args.capacity c.new-2.ensures.items refl refl refl c.new.ensures.kept c.new.ensures.capacity
