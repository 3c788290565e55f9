-- What was sent at a port, and whether it goes on to tell that.
use Rattle.std.specs.{Prelude.{◌≡◌, false, List}, List.{AllByRecursion}}
use Rattle.ptu_outside.specs.{declared.port.Port.{Ghosts as Ports}, Departure.{Departure}}
use Rattle.ptu_outside.specs.Telling.{IfTold, TellsOn, append_told}

-- what the port was sent, where it still tells it, grew by these datagrams
abbrev pub WasSent : {P : Type 0} → Ports P → P → P → List Departure → Type 0
WasSent ports old new datagrams = IfTold (ports.sent new) (append_told (ports.sent old) datagrams)

-- the port still tells what it was sent, where none of these datagrams is such that it may cease to
abbrev pub GoesOn : {P : Type 0} → Ports P → P → P → List Departure → Type 0
GoesOn ports old new datagrams =
    AllByRecursion (λ d. ports.ceases_at d ≡ false) datagrams → TellsOn (ports.sent old) (ports.sent new)
