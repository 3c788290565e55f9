use Rattle.std.proofs.Common.{◌≡◌, length, map}
use Rattle.ptu_judges.specs.Held.{IsStock}
use Rattle.ptpuni.specs.contracts.add_judges as count
use Rattle.ptpuni.proofs.main.OwnLists as own
use Rattle.ptpuni.proofs.main.Given as goal

abbrev pub invariant-loop : goal.invariant-loop
invariant-loop g l =
    IsStock (map (λ j. (count.dyn-1.members (count.dyn-1-ghosts (own.own-1, own.lawful-own-1)) (j.vtable, j.value)).Judge.held j.value) l.stock.flags.items)
    (map (λ j. (count.dyn-1.members (count.dyn-1-ghosts (own.own-1, own.lawful-own-1)) (j.vtable, j.value)).Judge.held j.value) l.stock.gaps.items)
    × ((length l.stock.flags.items ≡ l.counter) × (length l.stock.gaps.items ≡ l.counter))
