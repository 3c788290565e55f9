-- Parts of a list from one place to another.
use Rattle.std.proofs.Common.{◌≡◌, ℕ, ◌+◌, ◌-◌, ◌≤◌, min, List, ◌++◌, length, take, drop, refl, ap, sym, ◌∙◌, arith}
use Rattle.std.proofs.lemmas.List.{take_min, take_all, take-take, length-take, length-take-le, length-drop, drop-append-le, drop-drop, drop-take}
use Rattle.std.proofs.{lemmas.Slice.{between_is}, Math.Seq.{take-add, take-append_seam}}
use Rattle.std.specs.List.{slice_range}

-- lists with one front have one part within it
pub range-same : (xs ys : List ℕ) (a b : ℕ) → take b ys ≡ take b xs → slice_range ys a b ≡ slice_range xs a b
range-same xs ys a b e = between_is ys a b ∙ ap (drop a) e ∙ sym (between_is xs a b)

-- a part up to b, and what comes after b
range-split : (ys : List ℕ) (a b n : ℕ) → a ≤ b → b ≤ length ys → slice_range ys a (b + n) ≡ slice_range ys a b ++ take n (drop b ys)
range-split ys a b n le fits =
    let inside : a ≤ length (take b ys) = rw (length-take-le b ys fits) le in
    between_is ys a (b + n) ∙ (ap (drop a) (take-add b n ys)
    ∙ (drop-append-le a (take b ys) (take n (drop b ys)) inside
    ∙ ap (λ front. front ++ take n (drop b ys)) (sym (between_is ys a b))))

pub range-grow : (xs ys : List ℕ) (a b n : ℕ) → a ≤ b → b ≤ length ys → take b ys ≡ take b xs → slice_range ys a (b + n) ≡ slice_range xs a b ++ slice_range ys b (b + n)
range-grow xs ys a b n le fits e =
    let size : b + n - b ≡ n = omega arith in
    rw size (range-split ys a b n le fits ∙ ap (λ part. part ++ take n (drop b ys)) (range-same xs ys a b e))

pub take-range : (xs : List ℕ) (a b n : ℕ) → a + n ≤ b → take n (slice_range xs a b) ≡ slice_range xs a (a + n)
take-range xs a b n le =
    let size : a + n - a ≡ n = omega arith in
    let le' : n ≤ b - a = omega arith in
    rw size (take-take n (b - a) (drop a xs) le')

pub drop-range : (xs : List ℕ) (a b n : ℕ) → a + n ≤ b → drop n (slice_range xs a b) ≡ slice_range xs (a + n) b
drop-range xs a b n le =
    let size : b - a ≡ n + (b - (a + n)) = omega arith in
    rw (size, drop-take n (b - (a + n)) (drop a xs), drop-drop n a xs) refl

-- a list of the same length written over another
pub written_over : (xs ys : List ℕ) (n : ℕ) → n ≡ length xs → length ys ≡ length xs → take n (ys ++ drop (length ys) xs) ≡ ys
written_over xs ys n len same = rw (len, ← same) (take-append_seam ys (drop (length ys) xs))

pub length-range : (xs : List ℕ) (a n : ℕ) → a + n ≤ length xs → length (slice_range xs a (a + n)) ≡ n
length-range xs a n fits =
    let size : a + n - a ≡ n = omega arith in
    let inside : n ≤ length (drop a xs) = rw (length-drop a xs) (omega arith) in
    rw size (length-take-le n (drop a xs) inside)

pub length-between_places : (xs : List ℕ) (a b : ℕ) → a ≤ b → b ≤ length xs → length (slice_range xs a b) ≡ b - a
length-between_places xs a b order fits =
    let inside : b - a ≤ length (drop a xs) = rw (length-drop a xs) (omega arith) in
    length-take-le (b - a) (drop a xs) inside

-- the first n, where there are so many
pub length-least : (n : ℕ) (xs : List ℕ) → min (length xs) n ≡ length (take n xs)
length-least n xs = omega (arith, length-take n xs)

pub take-least : (n : ℕ) (xs : List ℕ) → take (min (length xs) n) xs ≡ take n xs
take-least n xs = ap (λ k. take k xs) (omega arith) ∙ take_min n xs

pub take-least_of_front : (n : ℕ) (xs : List ℕ) → take (min (length xs) n) (take n xs) ≡ take n xs
take-least_of_front n xs = take_all (min (length xs) n) (take n xs) (omega (arith, length-take n xs))

-- the first n, in two parts
pub take-range-split : (xs : List ℕ) (a n : ℕ) → a ≤ n → a ≤ length xs → take n xs ≡ take a xs ++ slice_range xs a (min (length xs) n)
take-range-split xs a n le fits =
    let m = min (length xs) n in
    let parts : m ≡ a + (m - a) = omega arith in
    sym (take-least n xs) ∙ (ap (λ k. take k xs) parts ∙ take-add a (m - a) xs)
