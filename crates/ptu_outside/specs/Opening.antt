-- Where a daemon opened its host.
use Rattle.std.specs.Prelude.{Option, Some, Result, Ok, Err}
use Rattle.ptu_outside.specs.{declared.endpoint.Endpoint.{Endpoint}, Telling.{IfTold}}
use Rattle.ptu_outside.specs.declared.fault.DaemonFault.{DaemonFault}
use Rattle.ptu_outside.specs.declared.fault.DaemonFault.TheVariants.{Open, Write, OutOfMemory}

-- a daemon that answers this has opened its host there, where the host tells it, but for one whose host did not open
abbrev pub OpenedAt : {A : Type 0} → Result A DaemonFault → Option Endpoint → Endpoint → Type 0
OpenedAt (Ok x) told endpoint = IfTold told (Some endpoint)
OpenedAt (Err Open) told endpoint = Unit {0}
OpenedAt (Err Write) told endpoint = IfTold told (Some endpoint)
OpenedAt (Err OutOfMemory) told endpoint = IfTold told (Some endpoint)
