use Rattle.std.proofs.Common.{heap_items}
use Rattle.ptu_admit.proofs.Candidates.{heap_by_candidate, heap_by_code, none_above}
use Rattle.ptu_admit.proofs.newest.Newest.pop.Goals as goal

pub invariant_of-self-2 : goal.invariant_of-self-2
invariant_of-self-2 c = heap_by_candidate (heap_items c.pop.new.self) (c.in_ok-first.ensures.heap_order (heap_by_code (heap_items c.self.inside.heap) c.self.invariant)).0

pub returns-clause-newest : goal.returns-clause-newest
returns-clause-newest c =
    rw (← c.self.view_is) (none_above c.in_ok-first.first (heap_items c.self.inside.heap) (c.in_ok-first.ensures.heap_order (heap_by_code (heap_items c.self.inside.heap) c.self.invariant)).1)
