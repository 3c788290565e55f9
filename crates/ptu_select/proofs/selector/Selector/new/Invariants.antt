use Rattle.std.proofs.Common.{◌≡◌, map, take}
use Rattle.ptu_select.proofs.selector.Selector.new.Given as goal

abbrev pub invariant-loop-priority : goal.invariant-loop-priority
invariant-loop-priority l = l.masters.items ≡ map (λ priority. record { watch = l.watch; priority = priority }) (take l.priority-index l.priorities)
