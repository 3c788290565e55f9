use Rattle.std.proofs.Common.{arith, map, heap_items}
use Rattle.std.specs.declared.cmp.Reverse.{Reverse}
use Rattle.ptu_shard.specs.declared.queue.Entry.{Entry}
use Rattle.ptu_shard.proofs.Heap.{all_later, heap_by_code, none_below}
use Rattle.ptu_shard.proofs.queue.Queue.first_until.Goals as goal

pub returns-then-nanos-first-clause-later : goal.returns-then-nanos-first-clause-later
returns-then-nanos-first-clause-later c =
    rw (← c.self.view_is)
    (all_later c.args.at c.in_ok-first.first.now.0 (map (λ (r : Reverse Entry). r.0) (heap_items c.self.inside.heap)) (omega (arith, c.if-nanos-first.true, c.nanos.ensures.value))
    (none_below c.in_ok-first.first.now (heap_items c.self.inside.heap) (c.in_ok-first.ensures.greatest (heap_by_code (heap_items c.self.inside.heap) c.self.invariant))))

pub returns-clause-least : goal.returns-clause-least
returns-clause-least c =
    rw (← c.self.view_is) (none_below c.in_ok-first.first.now (heap_items c.self.inside.heap) (c.in_ok-first.ensures.greatest (heap_by_code (heap_items c.self.inside.heap) c.self.invariant)))
