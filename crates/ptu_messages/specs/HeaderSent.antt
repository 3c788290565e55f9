-- The octets of a header as they are sent.
use Rattle.std.specs.{Prelude.{ℕ, ◌==◌, if◌then◌else◌, List, [], ◌∷◌, ◌++◌}, Int.{w64}}
use Rattle.ptu_units.specs.Number.{octets_of, signed_octets}
use Rattle.ptu_messages.specs.declared.header.{Header.{Header}, PortIdentity.{PortIdentity}}

-- the ten octets of a port identity
abbrev pub sent_identity : PortIdentity → List ℕ
sent_identity identity = octets_of 8 identity.clock ++ octets_of 2 identity.port

-- the controlField of a messageType: Sync, Delay_Req, Follow_Up and Delay_Resp have their own (IEEE 1588-2019 clause 13.3.2)
abbrev pub control_of : ℕ → ℕ
control_of message_type =
    if message_type == 0 then 0
    else if message_type == 1 then 1
    else if message_type == 8 then 2
    else if message_type == 9 then 3
    else 5

-- majorSdoId 0, minorVersionPTP 1, versionPTP 2, minorSdoId 0, messageTypeSpecific 0 and logMessageInterval 7F
abbrev pub sent_header : Header → ℕ → List ℕ
sent_header header n =
    header.message_type ∷ 0x12 ∷ []
    ++ octets_of 2 n
    ++ header.domain ∷ 0 ∷ []
    ++ octets_of 2 header.flags
    ++ signed_octets w64 header.correction
    ++ 0 ∷ 0 ∷ 0 ∷ 0 ∷ []
    ++ sent_identity header.source
    ++ octets_of 2 header.sequence
    ++ control_of header.message_type ∷ 0x7f ∷ []
