-- Numbers in octets, the highest octet first (IEEE 1588-2019 clause 13.1).
use Rattle.std.specs.Prelude.{ℕ, zero, suc, ◌+◌, ◌*◌, ◌/◌, ◌%◌, ℤ, List, slice_index}
use Rattle.std.specs.Int.{Width, byte_len, bytes_high_first, cast_signed, cast_unsigned}

-- the number in `count` octets from a place on
abbrev pub number_at : List ℕ → ℕ → ℕ → ℕ
number_at octets place zero = 0
number_at octets place (suc count) = 256 * number_at octets place count + slice_index octets (place + count)

-- the way back: the lowest `count` octets of a number, the highest of them first
abbrev pub octets_of : ℕ → ℕ → List ℕ
octets_of count n = bytes_high_first count n

-- the number with a sign that stands in the octets of the width from a place on, in two's complement
abbrev pub signed_at : Width → List ℕ → ℕ → ℤ
signed_at w octets place = cast_signed w (number_at octets place (byte_len w))

-- the way back
abbrev pub signed_octets : Width → ℤ → List ℕ
signed_octets w z = octets_of (byte_len w) (cast_unsigned w z)

-- the higher and the lower four bits of the octet at a place
abbrev pub high_nibble_at : List ℕ → ℕ → ℕ
high_nibble_at octets place = slice_index octets place / 16

abbrev pub low_nibble_at : List ℕ → ℕ → ℕ
low_nibble_at octets place = slice_index octets place % 16
