use Rattle.std.proofs.Common.{◌≡◌, [], length}
use Rattle.std.specs.List.{All}
use Rattle.ptu_outside.specs.MemoryPort.{MemoryPort}
use Rattle.ptu_pool_run.proofs.selling.idle_ports.Given as goal

abbrev pub invariant-loop : goal.invariant-loop
invariant-loop l =
    (length l.ports.items ≡ l.counter) × All (λ (port : MemoryPort). port.sent ≡ []) l.ports.items
    × All (λ (port : MemoryPort). port.failing_sends ≡ []) l.ports.items
