use Rattle.std.proofs.Common.{heap_items}
use Rattle.ptu_admit.proofs.Candidates.{heap_by_candidate}
use Rattle.ptu_admit.proofs.newest.Newest.of.Goals as goal

pub invariant_of-result : goal.invariant_of-result
invariant_of-result c = heap_by_candidate (heap_items c.from.result) c.from.ensures.2
