-- What judges hold, in a signature without a box, where `held` is of what is in a box.
use Rattle.std.specs.{Prelude.{List, map}, declared.dyn_box.DynBox.{DynBox}}
use Rattle.ptu_judges.specs.{Held.{Held, IsStock}, Calls.{judge_in}, declared.stock.Stock.{Stock}}

-- each of these
abbrev pub all_held : {X Z : Type 0} {F : X → Type 0} → ((i : X) × F i → Held) → List (DynBox X Z F) → List Held
all_held held judges = map (λ j. held (judge_in j)) judges

-- the judges of the stock are fresh, and of their rules
abbrev pub IsFreshStock : {X : Type 0} {F : X → Type 0} → ((i : X) × F i → Held) → Stock X F → Type 0
IsFreshStock held stock = IsStock (all_held held stock.flags.items) (all_held held stock.gaps.items)
