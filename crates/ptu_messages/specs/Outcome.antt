-- What a function found in octets, where it may want memory too.
use Rattle.std.specs.Prelude.{◌≡◌, ◌⊎◌, Result, Ok, Err}
use Rattle.ptu_messages.specs.declared.fault.MessageFault.{MessageFault}
use Rattle.ptu_messages.specs.declared.fault.MessageFault.TheVariants.{OutOfMemory}

-- what it answered, seen by `view`, is what reading finds, unless memory was wanted
abbrev pub Gives : {X Y : Type 0} → (X → Y) → Result X MessageFault → Result Y MessageFault → Type 0
Gives view (Ok x) found = found ≡ Ok (view x)
Gives view (Err fault) found = (fault ≡ OutOfMemory) ⊎ (found ≡ Err fault)
