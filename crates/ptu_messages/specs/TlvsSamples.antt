-- TLVs that were made out by hand, octet by octet, and what the definitions say of them.
use Rattle.std.specs.Prelude.{◌≡◌, ℕ, List, [], ◌∷◌, ◌++◌, replicate, true, false, pos, negsuc}
use Rattle.ptu_messages.specs.declared.tlv.Tlv.TheVariants.{Request, Grant, Cancel, Ack, Other}
use Rattle.ptu_messages.specs.declared.tlvs_fault.TlvFault.TheVariants.{Short, Overrun, Length}
use Rattle.ptu_messages.specs.{Tlv.{SpellsTlv, BeginsWithTlv}, TlvFault.{HasTlvFault}, TlvsSent.{sent_tlv}}

-- Announce at logarithm 1 for 300 s, and Sync at logarithm -7 for 300 s
abbrev pub announce_request : List ℕ
announce_request = 0x00 ∷ 0x04 ∷ 0x00 ∷ 0x06 ∷ 0xb0 ∷ 0x01 ∷ 0x00 ∷ 0x00 ∷ 0x01 ∷ 0x2c ∷ []

abbrev pub sync_request : List ℕ
sync_request = 0x00 ∷ 0x04 ∷ 0x00 ∷ 0x06 ∷ 0x00 ∷ 0xf9 ∷ 0x00 ∷ 0x00 ∷ 0x01 ∷ 0x2c ∷ []

-- the grant of the first, and the denial of the second
abbrev pub announce_grant : List ℕ
announce_grant = 0x00 ∷ 0x05 ∷ 0x00 ∷ 0x08 ∷ 0xb0 ∷ 0x01 ∷ 0x00 ∷ 0x00 ∷ 0x01 ∷ 0x2c ∷ 0x00 ∷ 0x01 ∷ []

abbrev pub sync_denial : List ℕ
sync_denial = 0x00 ∷ 0x05 ∷ 0x00 ∷ 0x08 ∷ 0x00 ∷ 0xf9 ∷ 0x00 ∷ 0x00 ∷ 0x00 ∷ 0x00 ∷ 0x00 ∷ 0x00 ∷ []

-- a cancel of Announce, and its acknowledgement
abbrev pub announce_cancel : List ℕ
announce_cancel = 0x00 ∷ 0x06 ∷ 0x00 ∷ 0x02 ∷ 0xb0 ∷ 0x00 ∷ []

abbrev pub announce_ack : List ℕ
announce_ack = 0x00 ∷ 0x07 ∷ 0x00 ∷ 0x02 ∷ 0xb0 ∷ 0x00 ∷ []

-- they are spelled so, also where what is reserved is not 0, and others follow
abbrev pub TlvsAreSpelled : Type 0
TlvsAreSpelled =
    SpellsTlv announce_request (Request (record { code = 11; log = pos 1; seconds = 300 }))
    × SpellsTlv sync_request (Request (record { code = 0; log = negsuc 6; seconds = 300 }))
    × SpellsTlv (0x00 ∷ 0x05 ∷ 0x00 ∷ 0x08 ∷ 0x9f ∷ 0x80 ∷ 0xff ∷ 0xff ∷ 0xff ∷ 0xff ∷ 0xff ∷ 0xff ∷ []) (Grant (record { code = 9; log = negsuc 127; seconds = 4294967295 }) true)
    × SpellsTlv (0x00 ∷ 0x05 ∷ 0x00 ∷ 0x08 ∷ 0x9f ∷ 0x7f ∷ 0x00 ∷ 0x00 ∷ 0x00 ∷ 0x00 ∷ 0xff ∷ 0xfe ∷ []) (Grant (record { code = 9; log = pos 127; seconds = 0 }) false)
    × SpellsTlv (0x00 ∷ 0x06 ∷ 0x00 ∷ 0x02 ∷ 0xff ∷ 0xff ∷ []) (Cancel 15)
    × SpellsTlv (0x30 ∷ 0x00 ∷ 0x00 ∷ 0x02 ∷ 0xab ∷ 0xcd ∷ []) (Other 0x3000 2)
    × SpellsTlv (0x00 ∷ 0x03 ∷ 0x00 ∷ 0x00 ∷ []) (Other 3 0)
    × BeginsWithTlv (announce_cancel ++ announce_request) (Cancel 11) 6

-- each fault
abbrev pub TlvFaultsAreFound : Type 0
TlvFaultsAreFound =
    HasTlvFault [] (Short 0)
    × HasTlvFault (0x00 ∷ 0x04 ∷ 0x00 ∷ []) (Short 3)
    × HasTlvFault (0x00 ∷ 0x04 ∷ 0x00 ∷ 0x06 ∷ replicate 5 0) (Overrun 6 5)
    × HasTlvFault (0x00 ∷ 0x04 ∷ 0x00 ∷ 0x0a ∷ replicate 5 0) (Overrun 10 5)
    × HasTlvFault (0x00 ∷ 0x04 ∷ 0x00 ∷ 0x05 ∷ replicate 6 0) (Length 4 5)
    × HasTlvFault (0x00 ∷ 0x07 ∷ 0x00 ∷ 0x08 ∷ replicate 8 0) (Length 7 8)

-- they are sent so
abbrev pub TlvsAreSent : Type 0
TlvsAreSent =
    (sent_tlv (Request (record { code = 11; log = pos 1; seconds = 300 })) ≡ announce_request)
    × (sent_tlv (Request (record { code = 0; log = negsuc 6; seconds = 300 })) ≡ sync_request)
    × (sent_tlv (Grant (record { code = 11; log = pos 1; seconds = 300 }) true) ≡ announce_grant)
    × (sent_tlv (Grant (record { code = 0; log = negsuc 6; seconds = 0 }) false) ≡ sync_denial)
    × (sent_tlv (Cancel 11) ≡ announce_cancel)
    × (sent_tlv (Ack 11) ≡ announce_ack)
