-- The words of the lines of a load, and what they are in the forms of their places.
use Rattle.std.proofs.Common.{◌≡◌, ◌∙◌, ℕ, ◌+◌, ◌*◌, ◌≤◌, nat_le, ◌==◌, true, List, [], ◌∷◌, ◌++◌, codes, Some, refl, sym, ap, decimal, arith}
use Rattle.std.specs.{Fmt.{digits}, List.{list_all, onto_first, slice_split}}
use Rattle.std.proofs.lemmas.{Bool.{le-leb}, List.{append-nil}}
use Rattle.ptu_lines.specs.{Script.{is_plain}, Words.{ip_of, words_of}}
use Rattle.ptu_lines.proofs.Read.{AreGlyphs, dotted_read, split_alone, split_before, split_behind}

-- glyphs are plain
pub plain_behind : (xs ys : List ℕ) → AreGlyphs xs → list_all is_plain ys ≡ true → list_all is_plain (xs ++ ys) ≡ true
plain_behind [] ys h e = e
plain_behind (x ∷ xs) ys h e =
    let low : nat_le 32 x ≡ true = le-leb 32 x (omega (arith, h.0.0)) in
    let high : nat_le x 126 ≡ true = le-leb x 126 (omega (arith, h.0.1)) in
    rw (low, high) (plain_behind xs ys h.1 e)

pub plain_alone : (xs : List ℕ) → AreGlyphs xs → list_all is_plain xs ≡ true
plain_alone xs h = ap (list_all is_plain) (sym (append-nil xs)) ∙ plain_behind xs [] h refl

-- ---- the words of each line

pub grandmaster_words : (d : List ℕ) → AreGlyphs d → words_of (codes "gm 10.0.0.1 0a00000000000001 1 4 84 " ++ (d ++ codes " 300"))
    ≡ codes "gm" ∷ codes "10.0.0.1" ∷ codes "0a00000000000001" ∷ codes "1" ∷ codes "4" ∷ codes "84" ∷ d ∷ codes "300" ∷ []
grandmaster_words d h =
    ap (λ ws. codes "gm" ∷ codes "10.0.0.1" ∷ codes "0a00000000000001" ∷ codes "1" ∷ codes "4" ∷ codes "84" ∷ ws)
    (split_before 32 (omega arith) d (codes " 300") (codes "300" ∷ []) h refl)

pub turn_words : (m t : List ℕ) → AreGlyphs m → AreGlyphs t → words_of (codes "turn " ++ (m ++ (codes " 10.0.0.1 " ++ t))) ≡ codes "turn" ∷ m ∷ codes "10.0.0.1" ∷ t ∷ []
turn_words m t h k =
    ap (λ ws. codes "turn" ∷ ws)
    (split_before 32 (omega arith) m (codes " 10.0.0.1 " ++ t) (codes "10.0.0.1" ∷ t ∷ []) h
    (ap (λ ws. [] ∷ codes "10.0.0.1" ∷ ws) (split_alone 32 (omega arith) t k)))

pub client_words : (a b o : List ℕ) → AreGlyphs a → AreGlyphs b → AreGlyphs o
    → words_of (codes "rx 0 10.0.0.1 10.1." ++ (a ++ (codes "." ++ (b ++ (codes " " ++ o))))) ≡ codes "rx" ∷ codes "0" ∷ codes "10.0.0.1" ∷ (codes "10.1." ++ (a ++ (codes "." ++ b))) ∷ o ∷ []
client_words a b o h k l =
    let last : slice_split (λ octet. octet == 32) (codes " " ++ o) ≡ [] ∷ o ∷ [] = ap (λ ws. [] ∷ ws) (split_alone 32 (omega arith) o l) in
    let second : slice_split (λ octet. octet == 32) (b ++ (codes " " ++ o)) ≡ b ∷ o ∷ [] = split_before 32 (omega arith) b (codes " " ++ o) (o ∷ []) k last in
    let first : slice_split (λ octet. octet == 32) (a ++ (codes "." ++ (b ++ (codes " " ++ o)))) ≡ (a ++ (codes "." ++ b)) ∷ o ∷ [] =
    split_behind 32 (omega arith) a (codes "." ++ (b ++ (codes " " ++ o))) (codes "." ++ b) (o ∷ []) h (ap (onto_first 46) second) in
    ap (λ ws. codes "rx" ∷ codes "0" ∷ codes "10.0.0.1" ∷ onto_first 49 (onto_first 48 (onto_first 46 (onto_first 49 (onto_first 46 ws))))) first

-- the address 10.1.a.b
pub address_read : (a b : ℕ) → a ≤ 255 → b ≤ 255 → ip_of (codes "10.1." ++ (decimal a ++ (codes "." ++ decimal b))) ≡ Some (((10 * 256 + 1) * 256 + a) * 256 + b)
unfolding digits
address_read a b h k = dotted_read 10 1 a b (omega arith) (omega arith) h k
