-- The limits within which the numbers of a command are.
use Rattle.std.specs.Prelude.{◌≤◌, length}
use Rattle.ptu_units.specs.Limits.{IsCapacity}
use Rattle.ptu_script.specs.Limits.{IsGrandmasterWithin}
use Rattle.ptu_pool_run.specs.declared.command.PoolCommand.{PoolCommand}
use Rattle.ptu_pool_run.specs.declared.command.PoolCommand.TheVariants.{Grandmaster, Sell, Receive, Turn}

abbrev pub IsPoolCommandInRange : PoolCommand → Type 0
IsPoolCommandInRange (Grandmaster setup) = IsGrandmasterWithin setup
IsPoolCommandInRange (Sell pool) = (pool.bits ≤ 32) × IsCapacity pool.capacity
IsPoolCommandInRange (Receive at from octets) = length octets ≤ 2048
IsPoolCommandInRange (Turn at pool table) = (1 ≤ pool) × (pool ≤ 16) × (table ≤ 3)
