-- Whom a Signaling is for, by its targetPortIdentity (IEEE 1588-2019 clause 13.12).
use Rattle.std.specs.Prelude.{Bool, ◌&&◌, ◌||◌, ◌==◌}
use Rattle.ptu_messages.specs.declared.header.PortIdentity.{PortIdentity}

-- every port of every clock
abbrev pub all_ones : PortIdentity
all_ones = record { clock = 0xffffffffffffffff; port = 0xffff }

-- the target matches a port where each of its parts is the port's own or all ones
abbrev pub is_target : (own target : PortIdentity) → Bool
is_target own target =
    ((target.clock == own.clock) || (target.clock == all_ones.clock)) && ((target.port == own.port) || (target.port == all_ones.port))
