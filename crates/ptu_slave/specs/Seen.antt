-- What is seen of a slave, whose fields are its own.
use Rattle.std.specs.{Prelude.{◌≡◌, List, length, map}, declared.alloc.Global.{Global}}
use Rattle.std.specs.declared.dyn_box.DynBox.{DynBox}
use Rattle.ptu_judges.specs.Held.{Held}
use Rattle.ptu_slave.specs.{Kept.{Kept}, declared.slave.Slave.{Slave}}

-- what it keeps, what its judges hold, these judges in their boxes, and its port
pub record Seen (P B : Type 0) : Type 0 where
  pub kept : Kept
  pub judges : List Held
  pub boxes : List B
  pub port : P

-- of a slave, by what each judge in its box holds
unfoldable pub seen : {P X : Type 0} {F : X → Type 0} → (DynBox X Global F → Held) → Slave P X F → Seen P (DynBox X Global F)
seen held s = record {
  kept = s.core;
  judges = map held s.judges.items;
  boxes = s.judges.items;
  port = s.port;
}

-- each master has a judge
abbrev pub HasJudges : {P B : Type 0} → Seen P B → Type 0
HasJudges slave = length slave.judges ≡ length slave.kept.masters
