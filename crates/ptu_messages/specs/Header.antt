-- The common header of a message, and the octets that spell it (IEEE 1588-2019 clause 13.3).
use Rattle.std.specs.Prelude.{◌≡◌, ℕ, ◌+◌, ◌-◌, ◌^◌, ◌<◌, ◌≤◌, List, ◌++◌, length, slice_index}
use Rattle.std.specs.{Int.{w64}, Int.RustNames.{FitsSigned}}
use Rattle.ptu_units.specs.Number.{number_at, signed_at, high_nibble_at, low_nibble_at}
use Rattle.ptu_messages.specs.declared.header.{Header.{Header}, PortIdentity.{PortIdentity}}

-- each part is a number of as many bits as its octets have for it
pub record HasIdentityWidths (identity : PortIdentity) : Type 0 where
  pub clock : identity.clock < 2 ^ 64
  pub port : identity.port < 2 ^ 16

-- likewise, of a header
pub record HasWidths (header : Header) : Type 0 where
  pub message_type : header.message_type < 2 ^ 4
  pub domain : header.domain < 2 ^ 8
  pub flags : header.flags < 2 ^ 16
  pub correction : FitsSigned w64 header.correction
  pub source : HasIdentityWidths header.source
  pub sequence : header.sequence < 2 ^ 16

-- the port identity in the ten octets from a place on: clockIdentity and portNumber (IEEE 1588-2019 clause 5.3.5)
abbrev pub identity_at : List ℕ → ℕ → PortIdentity
identity_at octets place = record { clock = number_at octets place 8; port = number_at octets (place + 8) 2 }

-- what is kept of a header, each field from its octets (IEEE 1588-2019 clause 13.3)
abbrev pub header_at : List ℕ → Header
header_at octets =
    record {
      message_type = low_nibble_at octets 0;
      domain = slice_index octets 4;
      flags = number_at octets 6 2;
      correction = signed_at w64 octets 8;
      source = identity_at octets 20;
      sequence = number_at octets 30 2;
    }

-- a message of versionPTP 2 and majorSdoId 0 begins the octets, and they have all of its n octets
pub record BeginsMessage (octets : List ℕ) (n : ℕ) : Type 0 where
  pub long : 34 ≤ length octets
  pub version : low_nibble_at octets 1 ≡ 2
  pub sdo : high_nibble_at octets 0 ≡ 0
  pub message_length : n ≡ number_at octets 2 2
  pub least : 34 ≤ n
  pub greatest : n ≤ length octets

-- the octets spell the header, with n as messageLength; what the header doesn't keep is free
pub record SpellsHeader (octets : List ℕ) (header : Header) (n : ℕ) : Type 0 where
  pub message : BeginsMessage octets n
  pub fields : header ≡ header_at octets

-- as SpellsHeader, whatever octets follow, if they are as many as the message has after its header
abbrev pub AlwaysSpellsHeader : List ℕ → Header → ℕ → Type 0
AlwaysSpellsHeader octets header n =
    (rest : List ℕ) → n - 34 ≤ length rest → SpellsHeader (octets ++ rest) header n
