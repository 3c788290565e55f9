-- Numbers that were made out by hand, and what the definitions say of them.
use Rattle.std.specs.{Prelude.{◌≡◌, [], ◌∷◌, pos, negsuc}, Int.{w8, w16, w64}}
use Rattle.ptu_units.specs.Number.{number_at, octets_of, signed_at, signed_octets, high_nibble_at, low_nibble_at}

-- the first octet is the highest, and what stands before or after is not looked at
abbrev pub NumbersAreRead : Type 0
NumbersAreRead =
    (number_at (0xff ∷ 0x01 ∷ 0x2c ∷ 0xff ∷ []) 1 2 ≡ 300)
    × (number_at (0x00 ∷ 0x0f ∷ 0x42 ∷ 0x40 ∷ []) 0 4 ≡ 1000000)
    × (number_at (0x00 ∷ 0x00 ∷ 0x00 ∷ 0x00 ∷ 0x00 ∷ 0x0a ∷ []) 0 6 ≡ 10)
    × (number_at (0x0a ∷ 0x00 ∷ 0x00 ∷ 0x00 ∷ 0x00 ∷ 0x00 ∷ 0x00 ∷ 0x11 ∷ []) 0 8 ≡ 0x0a00000000000011)
    × (octets_of 2 300 ≡ 0x01 ∷ 0x2c ∷ [])
    × (octets_of 6 10 ≡ 0x00 ∷ 0x00 ∷ 0x00 ∷ 0x00 ∷ 0x00 ∷ 0x0a ∷ [])

-- the sign is the highest bit of the first octet
abbrev pub SignsAreRead : Type 0
SignsAreRead =
    (signed_at w8 (0xf9 ∷ []) 0 ≡ negsuc 6)
    × (signed_at w16 (0x00 ∷ 0x7f ∷ 0xff ∷ []) 1 ≡ pos 32767)
    × (signed_at w16 (0x80 ∷ 0x00 ∷ []) 0 ≡ negsuc 32767)
    × (signed_octets w8 (negsuc 6) ≡ 0xf9 ∷ [])
    × (signed_octets w64 (negsuc 98303) ≡ 0xff ∷ 0xff ∷ 0xff ∷ 0xff ∷ 0xff ∷ 0xfe ∷ 0x80 ∷ 0x00 ∷ [])

-- the higher half comes first in writing
abbrev pub NibblesAreRead : Type 0
NibblesAreRead =
    (high_nibble_at (0x00 ∷ 0xb3 ∷ []) 1 ≡ 11) × (low_nibble_at (0x00 ∷ 0xb3 ∷ []) 1 ≡ 3)
