-- How texts are handed to a sink: each in one piece, and what is left of it again until all is taken.
use Rattle.std.specs.Prelude.{◌≡◌, ◌⊎◌, ℕ, ◌<◌, ◌≤◌, List, [], ◌∷◌, ◌++◌, length, drop, Option, Some, None}
use Rattle.std.specs.{List.{flat_map}, Io.KnownBytes.{append_known}}

-- the pieces that are told grew by these, where they are still told; where they were not told, they are not told
abbrev pub Grows : Option (List (List ℕ)) → Option (List (List ℕ)) → List (List ℕ) → Type 0
Grows old None more = Unit {0}
Grows None (Some new) more = ⊥
Grows (Some old) (Some new) more = new ≡ old ++ more

-- the pieces in which a text was handed over, as long as `left` of it was not taken: the text, and what was left of it
-- behind the n octets that were taken
abbrev pub Hands : List ℕ → List (List ℕ) → List ℕ → Type 0
Hands text [] left = left ≡ text
Hands text (piece ∷ pieces) left =
    (piece ≡ text) × ((n : ℕ) × (0 < n) × (n ≤ length text) × Hands (drop n text) pieces left)

-- the pieces of several texts, each handed over until nothing of it was left
abbrev pub HandsAll : List (List ℕ) → List (List ℕ) → Type 0
HandsAll [] pieces = pieces ≡ []
HandsAll (text ∷ texts) pieces =
    (first : List (List ℕ)) × (others : List (List ℕ)) × (pieces ≡ first ++ others) × Hands text first [] × HandsAll texts others

-- one text after the other
abbrev pub joined : List (List ℕ) → List ℕ
joined texts = flat_map (λ text. text) texts

-- these texts were handed over one after the other, and written whole
pub record HasPut {K : Type 0} (written : K → Option (List ℕ)) (handed : K → Option (List (List ℕ))) (old new : K) (texts : List (List ℕ)) : Type 0 where
  pub pieces : List (List ℕ)
  pub hands : HandsAll texts pieces
  pub handed_is : Grows (handed old) (handed new) pieces
  pub written_is : written new ≡ append_known (written old) (joined texts)

-- this front of the text was taken, and the call that was handed the rest, which is not empty, took nothing of it
pub record IsBegun (text front : List ℕ) (pieces : List (List ℕ)) : Type 0 where
  pub left : List ℕ
  pub earlier : List (List ℕ)
  pub parts : text ≡ front ++ left
  pub some : 0 < length left
  pub hands : Hands text earlier left
  pub last : pieces ≡ earlier ++ left ∷ []

-- the first of these texts is begun so, where there is one, or none is begun
abbrev pub IsFirstBegun : List (List ℕ) → List ℕ → List (List ℕ) → Type 0
IsFirstBegun [] front pieces = (front ≡ []) × (pieces ≡ [])
IsFirstBegun (text ∷ later) front pieces = ((front ≡ []) × (pieces ≡ [])) ⊎ IsBegun text front pieces

-- the text was handed over in part
pub record HasPutFront {K : Type 0} (written : K → Option (List ℕ)) (handed : K → Option (List (List ℕ))) (old new : K) (text : List ℕ) : Type 0 where
  pub front : List ℕ
  pub pieces : List (List ℕ)
  pub begun : IsBegun text front pieces
  pub handed_is : Grows (handed old) (handed new) pieces
  pub written_is : written new ≡ append_known (written old) front

-- the first of these texts were put, and of the next one a front at most
pub record HasPutPart {K : Type 0} (written : K → Option (List ℕ)) (handed : K → Option (List (List ℕ))) (old new : K) (texts : List (List ℕ)) : Type 0 where
  pub done : List (List ℕ)
  pub later : List (List ℕ)
  pub parts : texts ≡ done ++ later
  pub pieces : List (List ℕ)
  pub hands : HandsAll done pieces
  pub front : List ℕ
  pub last_pieces : List (List ℕ)
  pub begun : IsFirstBegun later front last_pieces
  pub handed_is : Grows (handed old) (handed new) (pieces ++ last_pieces)
  pub written_is : written new ≡ append_known (written old) (joined done ++ front)
