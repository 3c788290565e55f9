use Rattle.std.proofs.Common.{◌≡◌, length}
use Rattle.std.specs.Prelude.{vec_capacity, vec_len}
use Rattle.ptu_admit.specs.{Lent.{four}, Newest.{AreListed}}
use Rattle.ptu_admit.proofs.ShedLoop.{SoFar}
use Rattle.ptu_admit.proofs.shedding.shed_newest.Given as goal

abbrev pub invariant-above : goal.invariant-above
invariant-above g l = record {
  so_far : SoFar l.initial.shedding.at l.initial.shedding.capacity l.initial.s0 l.initial.s1 l.initial.s2 l.initial.s3 l.s0 l.s1 l.s2 l.s3 l.initial.book l.book l.shedding.list.items
      (vec_len l.shedding.list) (vec_capacity l.shedding.list);
  capacity_is : l.shedding.capacity ≡ l.initial.shedding.capacity;
  listed : AreListed (four l.s0 l.s1 l.s2 l.s3) l.shedding.newest;
}

abbrev pub decreases-above : goal.decreases-above
decreases-above g l = length l.shedding.newest
