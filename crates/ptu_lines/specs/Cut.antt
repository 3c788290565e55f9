-- Where the words of a line end.
use Rattle.std.specs.Prelude.{◌≡◌, ◌≤◌, ◌<◌, ℕ, zero, suc, ◌+◌, List, length, slice_get, slice_index, slice_range, Some}
use Rattle.ptu_lines.specs.Words.{words_of}

-- a word begins behind the space that ends the one before
abbrev pub start_of : List ℕ → ℕ → ℕ
start_of ends zero = 0
start_of ends (suc k) = slice_index ends k + 1

-- so many words, and the first sixteen of them end there
abbrev pub HasEnds : List ℕ → List ℕ → ℕ → Type 0
HasEnds line ends count =
    (count ≡ length (words_of line))
    × ((k : ℕ) → k < count → k < 16
    → (start_of ends k ≤ slice_index ends k) × (slice_index ends k ≤ length line)
    × (slice_get (words_of line) k ≡ Some (slice_range line (start_of ends k) (slice_index ends k))))
