-- What is wrong with octets that begin with no TLV.
use Rattle.std.specs.Prelude.{◌≡◌, ◌≢◌, ℕ, ◌+◌, ◌<◌, ◌≤◌, ◌⊎◌, List, ◌++◌, length, codes}
use Rattle.std.specs.Fmt.{decimal}
use Rattle.ptu_messages.specs.declared.tlvs_fault.TlvFault.{TlvFault}
use Rattle.ptu_messages.specs.declared.tlvs_fault.TlvFault.TheVariants.{Short, Overrun, Length}
use Rattle.ptu_units.specs.Number.{number_at}

-- the tlvType is a known one, and n is not its lengthField
abbrev pub HasOtherLength : ℕ → ℕ → Type 0
HasOtherLength tlv_type n =
    ((tlv_type ≡ 4) × (n ≢ 6)) ⊎ ((tlv_type ≡ 5) × (n ≢ 8)) ⊎ ((tlv_type ≡ 6) × (n ≢ 2)) ⊎ ((tlv_type ≡ 7) × (n ≢ 2))

-- the first fault that applies, with its numbers: each case says that those before it don't apply
abbrev pub HasTlvFault : List ℕ → TlvFault → Type 0
HasTlvFault octets (Short have) =
    (have ≡ length octets) × (have < 4)
HasTlvFault octets (Overrun said have) =
    (4 + have ≡ length octets)
    × (said ≡ number_at octets 2 2) × (have < said)
HasTlvFault octets (Length tlv_type said) =
    (4 + said ≤ length octets)
    × (tlv_type ≡ number_at octets 0 2) × (said ≡ number_at octets 2 2) × HasOtherLength tlv_type said

-- what a person is told of it
abbrev pub tlv_fault_text : TlvFault → List ℕ
tlv_fault_text (Short have) = decimal have ++ codes " octets are fewer than the 4 that begin a TLV"
tlv_fault_text (Overrun said have) = codes "lengthField is " ++ (decimal said ++ (codes " where " ++ (decimal have ++ codes " octets follow")))
tlv_fault_text (Length tlv_type said) = codes "lengthField is " ++ (decimal said ++ (codes ", which tlvType " ++ (decimal tlv_type ++ codes " never has")))
