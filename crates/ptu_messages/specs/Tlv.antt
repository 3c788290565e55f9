-- The TLVs of unicast negotiation, and the octets that spell them (IEEE 1588-2019 clauses 14.1 and 16.1.4).
use Rattle.std.specs.Prelude.{◌≡◌, ℕ, ◌+◌, ◌%◌, ◌^◌, ◌<◌, ◌≤◌, ◌==◌, ◌⊎◌, Bool, List, ◌++◌, length, slice_index, take}
use Rattle.std.specs.{Int.{w8, cast_signed}, Int.RustNames.{FitsSigned}}
use Rattle.ptu_units.specs.Number.{number_at, high_nibble_at}
use Rattle.ptu_messages.specs.declared.tlv.{Ask.{Ask}, Tlv.{Tlv}}
use Rattle.ptu_messages.specs.declared.tlv.Tlv.TheVariants.{Request, Grant, Cancel, Ack, Other}

-- each field is a number of as many bits as the octets have for it
pub record HasAskWidths (ask : Ask) : Type 0 where
  pub code : ask.code < 2 ^ 4
  pub log : FitsSigned w8 ask.log
  pub seconds : ask.seconds < 2 ^ 32

-- likewise, of a TLV
abbrev pub HasWidths : Tlv → Type 0
HasWidths (Request ask) = HasAskWidths ask
HasWidths (Grant ask invited) = HasAskWidths ask
HasWidths (Cancel code) = code < 2 ^ 4
HasWidths (Ack code) = code < 2 ^ 4
HasWidths (Other tlv_type n) = (tlv_type < 2 ^ 16) × (n < 2 ^ 16)

-- the octets are a tlvType, a lengthField and as many octets of value as that says
abbrev pub IsWhole : List ℕ → Type 0
IsWhole octets = length octets ≡ 4 + number_at octets 2 2

-- the octets are a whole TLV with this tlvType and this lengthField
pub record HasHead (octets : List ℕ) (tlvType lengthField : ℕ) : Type 0 where
  pub whole : length octets ≡ 4 + lengthField
  pub tlv_type : tlvType ≡ number_at octets 0 2
  pub length_field : lengthField ≡ number_at octets 2 2

-- what the value begins with: the code, in the higher half of its octet, the logInterMessagePeriod and the durationField
abbrev pub ask_at : List ℕ → Ask
ask_at octets =
    record { code = high_nibble_at octets 4; log = cast_signed w8 (slice_index octets 5); seconds = number_at octets 6 4 }

-- R, the lowest bit of the last octet of a grant
abbrev pub renewal_at : List ℕ → Bool
renewal_at octets = slice_index octets 11 % 2 == 1

-- the octets spell the TLV, no more and no fewer; reserved bits, and the value of another type, are free
abbrev pub SpellsTlv : List ℕ → Tlv → Type 0
SpellsTlv octets (Request ask) = HasHead octets 4 6 × (ask ≡ ask_at octets)
SpellsTlv octets (Grant ask invited) = HasHead octets 5 8 × (ask ≡ ask_at octets) × (invited ≡ renewal_at octets)
SpellsTlv octets (Cancel code) = HasHead octets 6 2 × (code ≡ high_nibble_at octets 4)
SpellsTlv octets (Ack code) = HasHead octets 7 2 × (code ≡ high_nibble_at octets 4)
SpellsTlv octets (Other tlv_type n) = HasHead octets tlv_type n × ((tlv_type < 4) ⊎ (7 < tlv_type))

-- the first `size` octets spell the TLV
pub record BeginsWithTlv (octets : List ℕ) (tlv : Tlv) (size : ℕ) : Type 0 where
  pub within : size ≤ length octets
  pub spelled : SpellsTlv (take size octets) tlv

-- whatever follows the octets, the TLV is spelled by exactly these
abbrev pub AlwaysBeginsWithTlv : List ℕ → Tlv → Type 0
AlwaysBeginsWithTlv octets tlv = (rest : List ℕ) → BeginsWithTlv (octets ++ rest) tlv (length octets)

-- front is a front of the octets, and a whole TLV
pub record IsFirst (octets front : List ℕ) : Type 0 where
  pub within : length front ≤ length octets
  pub taken : front ≡ take (length front) octets
  pub whole : IsWhole front
