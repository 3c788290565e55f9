-- What is wrong with octets that spell no header.
use Rattle.std.specs.Prelude.{◌≡◌, ◌≢◌, ℕ, ◌<◌, ◌≤◌, ◌⊎◌, List, ◌++◌, length, codes}
use Rattle.std.specs.Fmt.{decimal}
use Rattle.ptu_messages.specs.declared.header_fault.HeaderFault.{HeaderFault}
use Rattle.ptu_messages.specs.declared.header_fault.HeaderFault.TheVariants.{Short, Version, Sdo, Length}
use Rattle.ptu_units.specs.Number.{number_at, high_nibble_at, low_nibble_at}

-- the first fault that applies, with its numbers: each case says that those before it don't apply
abbrev pub HasHeaderFault : List ℕ → HeaderFault → Type 0
HasHeaderFault octets (Short have) =
    (have ≡ length octets) × (have < 34)
HasHeaderFault octets (Version found) =
    (34 ≤ length octets)
    × (found ≡ low_nibble_at octets 1) × (found ≢ 2)
HasHeaderFault octets (Sdo found) =
    (34 ≤ length octets)
    × (low_nibble_at octets 1 ≡ 2)
    × (found ≡ high_nibble_at octets 0) × (found ≢ 0)
HasHeaderFault octets (Length said have) =
    (34 ≤ length octets)
    × (low_nibble_at octets 1 ≡ 2)
    × (high_nibble_at octets 0 ≡ 0)
    × (said ≡ number_at octets 2 2) × (have ≡ length octets) × ((said < 34) ⊎ (have < said))

-- what a person is told of it
abbrev pub header_fault_text : HeaderFault → List ℕ
header_fault_text (Short have) = decimal have ++ codes " octets are fewer than the 34 of a header"
header_fault_text (Version found) = codes "versionPTP is " ++ decimal found ++ codes " and not 2"
header_fault_text (Sdo found) = codes "majorSdoId is " ++ decimal found ++ codes " and not 0"
header_fault_text (Length said have) = codes "messageLength is " ++ (decimal said ++ (codes " and not from 34 to " ++ decimal have))
