use Rattle.std.proofs.Common.{◌≡◌, arith, heap_items, length, Option, Some, None}
use Rattle.std.specs.{Prelude.{IfNone}, declared.cmp.Reverse.{Reverse}}
use Rattle.ptu_shard.specs.declared.queue.Entry.{Entry}
use Rattle.ptu_shard.proofs.Heap.{first_dropped, heap_without}
use Rattle.ptu_shard.proofs.queue.Queue.drop_first.Goals as goal

pub invariant_of-self : goal.invariant_of-self
invariant_of-self c =
    heap_without (heap_items c.self.inside.heap) (heap_items c.pop.new.self) c.pop.result c.self.invariant c.pop.ensures.heap_order (kept _ _ c.pop.result c.pop.ensures.unchanged)
  where
    kept : (A B : Type 0) (o : Option (Reverse Entry)) → IfNone o (A × B) → IfNone o A
    kept A B None h = h.0
    kept A B (Some x) h = tt

pub returns-clause-dropped : goal.returns-clause-dropped
returns-clause-dropped c =
    rw (← c.self.view_is)
    (first_dropped (heap_items c.self.inside.heap) (heap_items c.pop.new.self) c.pop.result c.pop.ensures.top c.pop.ensures.permutation
    (empty c.pop.result c.pop.ensures.none))
  where
    empty : (o : Option (Reverse Entry)) → IfNone o (c.self.inside.heap.data.len ≡ 0) → IfNone o (length (heap_items c.self.inside.heap) ≡ 0)
    empty None h = omega (arith, h, c.self.inside.heap.data.ok.0)
    empty (Some x) h = tt
