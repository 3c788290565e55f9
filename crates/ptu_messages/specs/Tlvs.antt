-- Lists of TLVs, and the octets that spell them (IEEE 1588-2019 clauses 13.12 and 14.1).
use Rattle.std.specs.Prelude.{◌≡◌, ℕ, ◌≤◌, List, [], ◌∷◌, ◌++◌, length}
use Rattle.ptu_messages.specs.{declared.tlv.Tlv.{Tlv}, Tlv.{SpellsTlv}}

-- the octets are spellings of the TLVs, one after the other
abbrev pub AreSpelled : List ℕ → List Tlv → Type 0
AreSpelled octets [] = octets ≡ []
AreSpelled octets (tlv ∷ tlvs) =
    (front : List ℕ) × (rest : List ℕ) × (octets ≡ front ++ rest) × SpellsTlv front tlv × AreSpelled rest tlvs

-- likewise, of at most the 32 TLVs that a message is read with
pub record SpellsTlvs (octets : List ℕ) (tlvs : List Tlv) : Type 0 where
  pub spelled : AreSpelled octets tlvs
  pub few : length tlvs ≤ 32
