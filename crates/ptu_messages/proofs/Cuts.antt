-- Cutting octets at places.
use Rattle.std.proofs.Common.{◌≡◌, ℕ, ◌+◌, ◌-◌, ◌≤◌, List, ◌++◌, length, take, drop, sym, ap, ◌∙◌, arith, length-append, length-drop}
use Rattle.std.specs.Prelude.{slice_range}
use Rattle.std.proofs.Math.Seq.{take-add}
use Rattle.std.proofs.lemmas.List.{take_at, drop_at, length-take-le, drop-drop, drop-take}

pub length-slice_range : (octets : List ℕ) (a b : ℕ) → b ≤ length octets → length (slice_range octets a b) ≡ b - a
length-slice_range octets a b le = length-take-le (b - a) (drop a octets) (omega (arith, length-drop a octets))

-- a part is its front and the rest
pub slice_range-split : (octets : List ℕ) (a b c : ℕ) → a ≤ b → b ≤ c → slice_range octets a c ≡ slice_range octets a b ++ slice_range octets b c
slice_range-split octets a b c low high =
    let both : c - a ≡ (b - a) + (c - b) = omega arith in
    let place : a + (b - a) ≡ b = omega arith in
    ap (λ (k : ℕ). take k (drop a octets)) both
    ∙ take-add (b - a) (c - b) (drop a octets)
    ∙ ap (λ (o : List ℕ). take (b - a) (drop a octets) ++ take (c - b) o) (drop-drop (b - a) a octets ∙ ap (λ (k : ℕ). drop k octets) place)

-- where a part falls into two, these are parts as well
pub record IsCut (octets : List ℕ) (a c : ℕ) (before after : List ℕ) : Type 0 where
  pub within : a + length before + length after ≡ c
  pub before_is : slice_range octets a (a + length before) ≡ before
  pub after_is : slice_range octets (a + length before) c ≡ after

pub cut : (octets : List ℕ) (a c : ℕ) (before after : List ℕ) → a ≤ c → c ≤ length octets → slice_range octets a c ≡ before ++ after → IsCut octets a c before after
cut octets a c before after low high parts =
    let b : ℕ = a + length before in
    let whole = length-slice_range octets a c high in
    let sum : length (slice_range octets a c) ≡ length before + length after = ap length parts ∙ length-append before after in
    let within : a + length before + length after ≡ c = omega arith in
    let le : b ≤ c = omega arith in
    let split = slice_range-split octets a b c (omega arith) le in
    let size : length (slice_range octets a b) ≡ length before = length-slice_range octets a b (omega arith) ∙ omega arith in
    let both : slice_range octets a b ++ slice_range octets b c ≡ before ++ after = sym split ∙ parts in
    record {
      within = within;
      before_is = sym (take_at (slice_range octets a b) (slice_range octets b c) (length before) size) ∙ ap (take (length before)) both ∙ take_at before after (length before) (omega arith);
      after_is = sym (drop_at (slice_range octets a b) (slice_range octets b c) (length before) size) ∙ ap (drop (length before)) both ∙ drop_at before after (length before) (omega arith);
    }

-- what is left of a part behind some of its octets
pub slice_range-drop : (octets : List ℕ) (a size c : ℕ) → a + size ≤ c → drop size (slice_range octets a c) ≡ slice_range octets (a + size) c
slice_range-drop octets a size c le =
    let many : c - a ≡ size + (c - (a + size)) = omega arith in
    ap (λ (k : ℕ). drop size (take k (drop a octets))) many
    ∙ drop-take size (c - (a + size)) (drop a octets)
    ∙ ap (take (c - (a + size))) (drop-drop size a octets)
