-- What a host in memory holds.
use Rattle.std.specs.Prelude.{ℕ, Option}
use Rattle.ptu_outside.specs.declared.{opened.Opened.{Opened}, endpoint.Endpoint.{Endpoint}}
use Rattle.ptu_outside.specs.{MemoryPort.{MemoryPort}, MemoryClock.{MemoryClock}}

-- the ports and clocks that it will open, those that it was given back last, where it opened last, the same of its control
-- port, and how many faults there have been
pub record MemoryHost : Type 0 where
  pub opening : Option (Opened MemoryPort MemoryClock)
  pub back : Option (Opened MemoryPort MemoryClock)
  pub opened_at : Option Endpoint
  pub control : Option MemoryPort
  pub control_back : Option MemoryPort
  pub control_at : Option ℕ
  pub faults : ℕ
