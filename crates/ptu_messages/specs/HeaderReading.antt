-- Reading a header: its fields and the messageLength, or the first fault.
use Rattle.std.specs.Prelude.{ℕ, ◌==◌, ◌||◌, if◌then◌else◌, List, length, nat_lt, Result, Ok, Err}
use Rattle.ptu_units.specs.Number.{number_at, high_nibble_at, low_nibble_at}
use Rattle.ptu_messages.specs.declared.{header.Header.{Header}, header_fault.HeaderFault.{HeaderFault}}
use Rattle.ptu_messages.specs.declared.header_fault.HeaderFault.TheVariants.{Short, Version, Sdo, Length}
use Rattle.ptu_messages.specs.Header.{header_at}

-- by the messageLength
abbrev pub by_length : List ℕ → ℕ → Result (Header × ℕ) HeaderFault
by_length octets said =
    if nat_lt said 34 || nat_lt (length octets) said then Err (Length said (length octets)) else Ok (header_at octets, said)

-- one value for every list of octets: SpellsHeader says what is found, and HasHeaderFault why nothing is
unfoldable pub header_in : List ℕ → Result (Header × ℕ) HeaderFault
header_in octets =
    if nat_lt (length octets) 34 then Err (Short (length octets))
    else if low_nibble_at octets 1 == 2 then
    if high_nibble_at octets 0 == 0 then by_length octets (number_at octets 2 2) else Err (Sdo (high_nibble_at octets 0))
    else Err (Version (low_nibble_at octets 1))
