use Rattle.std.proofs.Common.{◌≡◌, ◌<◌, ◌≤◌, ℕ, []}
use Rattle.std.specs.List.{flat_map}
use Rattle.ptu_record.specs.{Lists.{places}, Record.{Record}, Tick.{requests_to}}
use Rattle.ptu_slave.specs.Standing.{Asks}
use Rattle.ptu_slave.proofs.node.Core.asks_from.Given as goal

abbrev pub invariant-loop-master : goal.invariant-loop-master
invariant-loop-master l = (L : Record) → Asks l.self L L → (x : ℕ) → l.self.moment ≤ x → x < l.from → flat_map (requests_to l.self.config.wants L x) (places l.master) ≡ []
