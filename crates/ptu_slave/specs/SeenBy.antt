-- What is seen of a slave in a signature without a box, where `held` is of what is in a box.
use Rattle.std.specs.declared.{alloc.Global.{Global}, dyn_box.DynBox.{DynBox}}
use Rattle.ptu_judges.specs.{Held.{Held}, Calls.{judge_in}}
use Rattle.ptu_slave.specs.{Seen.{Seen, seen}, declared.slave.Slave.{Slave}}

abbrev pub seen_by : {P X : Type 0} {F : X → Type 0} → ((i : X) × F i → Held) → Slave P X F → Seen P (DynBox X Global F)
seen_by held s = seen (λ j. held (judge_in j)) s
