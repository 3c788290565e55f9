-- What each answer of a slave's daemon says.
use Rattle.std.specs.Prelude.{◌≡◌, ℕ, Option, Some, IfSome, Result, Ok, Err}
use Rattle.ptu_outside.specs.declared.{opened.Opened.{Opened}, failed.Failed.{Failed}}
use Rattle.ptu_outside.specs.{Faults.{HasRisen}, Telling.{IfTold}}
use Rattle.ptu_slave_daemon.specs.declared.halt.Halt.{Halt}
use Rattle.ptu_slave_daemon.specs.declared.halt.Halt.TheVariants as halts
use Rattle.ptu_outside.specs.declared.fault.DaemonFault.{DaemonFault}
use Rattle.ptu_outside.specs.declared.fault.DaemonFault.TheVariants.{Open, Write}

-- the count of faults of the host rose exactly where it opened nothing
abbrev pub CountsOpen : {A : Type 0} → Result A DaemonFault → ℕ → ℕ → Type 0
CountsOpen (Err Open) old new = HasRisen old new
CountsOpen _ old new = new ≡ old

-- the count of faults of the sink rose exactly where the output was not written
abbrev pub CountsWrite : {A : Type 0} → Result A DaemonFault → ℕ → ℕ → Type 0
CountsWrite (Err Write) old new = HasRisen old new
CountsWrite _ old new = new ≡ old

-- these were opened, as far as it was told what would be
abbrev pub WasOpened : {P C : Type 0} → Option (Opened P C) → Opened P C → Type 0
WasOpened told opened = IfSome told (λ ports. opened ≡ ports)

-- these were given back last, as far as that is told
abbrev pub WasGivenBack : {P C : Type 0} → Option (Opened P C) → Opened P C → Type 0
WasGivenBack told opened = IfTold told (Some opened)

-- the count of faults of the sink rose exactly where the daemon did not come to its end by it
abbrev pub Halts : {A : Type 0} → Result A Halt → ℕ → ℕ → Type 0
Halts (Err halts.Write) old new = HasRisen old new
Halts _ old new = new ≡ old

-- the count of faults of the sink rose exactly where it failed
abbrev pub FailsWith : {A : Type 0} → Result A Failed → ℕ → ℕ → Type 0
FailsWith (Ok x) old new = new ≡ old
FailsWith (Err failed) old new = HasRisen old new
