use Rattle.std.proofs.Common.{map, take, drop, length}
use Rattle.ptu_judges.specs.Held.{IsStock}
use Rattle.ptu_slave_daemon.proofs.Judges.{AreFresh, Enough}
use Rattle.ptu_slave_daemon.proofs.opening.new_judges.Given as goal

abbrev pub invariant-loop-master : goal.invariant-loop-master
invariant-loop-master g l = record {
  judges : AreFresh (λ j. (goal.Judge-dyn g (j.vtable, j.value)).Judge.held j.value) l.judges.items (take l.master-index l.masters);
  enough : Enough (drop l.master-index l.masters) (length l.stock.flags.items) (length l.stock.gaps.items);
  stock : IsStock (map (λ j. (goal.Judge-dyn g (j.vtable, j.value)).Judge.held j.value) l.stock.flags.items)
      (map (λ j. (goal.Judge-dyn g (j.vtable, j.value)).Judge.held j.value) l.stock.gaps.items);
}
