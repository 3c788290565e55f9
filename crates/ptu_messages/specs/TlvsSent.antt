-- The octets of a TLV as they are sent.
use Rattle.std.specs.Prelude.{ℕ, ◌*◌, ◌<◌, ⊤, List, [], ◌∷◌, ◌++◌}
use Rattle.std.specs.Int.{w8, cast_unsigned, from_bool}
use Rattle.ptu_units.specs.Number.{octets_of}
use Rattle.ptu_messages.specs.declared.tlv.{Ask.{Ask}, Tlv.{Tlv}}
use Rattle.ptu_messages.specs.declared.tlv.Tlv.TheVariants.{Request, Grant, Cancel, Ack, Other}

-- its code, where it has one, is of 4 bits
abbrev pub HasShortCode : Tlv → Type 0
HasShortCode (Request ask) = ask.code < 16
HasShortCode (Grant ask invited) = ask.code < 16
HasShortCode (Cancel code) = code < 16
HasShortCode (Ack code) = code < 16
HasShortCode (Other tlv_type n) = ⊤

-- a TLV that can be sent: one of the four, with such a code
abbrev pub IsSendable : Tlv → Type 0
IsSendable (Other tlv_type n) = ⊥
IsSendable tlv = HasShortCode tlv

-- the code octet, the logInterMessagePeriod and the durationField
abbrev pub sent_ask : Ask → List ℕ
sent_ask ask = 16 * ask.code ∷ cast_unsigned w8 ask.log ∷ octets_of 4 ask.seconds

-- type, length and value, reserved bits 0; no other type is sent
abbrev pub sent_tlv : Tlv → List ℕ
sent_tlv (Request ask) = 0 ∷ 4 ∷ 0 ∷ 6 ∷ sent_ask ask
sent_tlv (Grant ask invited) = 0 ∷ 5 ∷ 0 ∷ 8 ∷ sent_ask ask ++ 0 ∷ from_bool invited ∷ []
sent_tlv (Cancel code) = 0 ∷ 6 ∷ 0 ∷ 2 ∷ 16 * code ∷ 0 ∷ []
sent_tlv (Ack code) = 0 ∷ 7 ∷ 0 ∷ 2 ∷ 16 * code ∷ 0 ∷ []
sent_tlv (Other tlv_type n) = []
