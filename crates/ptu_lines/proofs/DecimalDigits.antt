-- Numbers from their digits, and the limits of a word.
use Rattle.std.proofs.Common.{◌≡◌, ℕ, suc, ◌+◌, ◌*◌, ◌^◌, ◌<◌, ◌≤◌, true, List, [], ◌∷◌, length, take, get_or, Some, refl, ap, subst, sym, ◌∙◌, arith}
use Rattle.std.proofs.lemmas.Bool.{lt-ltb}
use Rattle.std.proofs.lemmas.Int.Digits.{digits_value-lt, digits_value_more, digits_more}
use Rattle.std.proofs.lemmas.List.{length-take-le, take_all}
use Rattle.std.proofs.Math.Nat.{pow-suc, pow-le-pow_right, mul-le-mul_right}
use Rattle.std.specs.{Char.{digit_value, is_digit}, List.{list_all}}
use Rattle.std.specs.Str.Parse.{digits_value, AllDigits}
use Rattle.ptu_lines.specs.Words.{value_of}

-- what was read of a word's digits
pub record IsReadTo (base : ℕ) (word : List ℕ) (at value : ℕ) : Type 0 where
  pub is : value ≡ digits_value base (take at word)
  pub digits : AllDigits base (take at word)

pub IsReadTo-start : (base : ℕ) (word : List ℕ) → IsReadTo base word 0 0
IsReadTo-start base word = record { is = refl; digits = tt }

pub IsReadTo-more : (base : ℕ) (word : List ℕ) (at value : ℕ) → at < length word → digit_value (get_or word at 0) < base → IsReadTo base word at value
    → IsReadTo base word (at + 1) (value * base + digit_value (get_or word at 0))
IsReadTo-more base word at value in_word is_digit read = record {
  is = ap (λ n. n * base + digit_value (get_or word at 0)) read.is ∙ sym (digits_value_more base word at in_word);
  digits = digits_more base word at in_word read.digits is_digit;
}

-- one digit more still fits
pub next_fits : (base digit : ℕ) (word : List ℕ) (at value : ℕ) → digit < base → at < length word → base ^ length word ≤ 2 ^ 64 → IsReadTo base word at value
    → value * base + digit < 2 ^ 64
next_fits base digit word at value small in_word fits read =
    let len : length (take at word) ≡ at = length-take-le at word (omega arith) in
    let below : digits_value base (take at word) < base ^ length (take at word) = digits_value-lt base (take at word) read.digits in
    let value_below : value < base ^ at = rw read.is (subst (λ n. digits_value base (take at word) < base ^ n) len below) in
    let product : (value + 1) * base ≤ base ^ at * base = mul-le-mul_right base (omega arith) in
    let power : base ^ suc at ≡ base ^ at * base = pow-suc base at in
    let most : base ^ suc at ≤ base ^ length word = pow-le-pow_right (omega arith) (omega arith) in
    let spread : (value + 1) * base ≡ value * base + base = grind arith in
    omega arith

pub list_all-digits : (base : ℕ) (word : List ℕ) → AllDigits base word → list_all (λ octet. is_digit octet base) word ≡ true
list_all-digits base [] h = refl
list_all-digits base (octet ∷ word) h = rw (lt-ltb _ _ h.0) (list_all-digits base word h.1)

-- the value of a word all of whose digits were read
pub value_of-read : (base : ℕ) (word : List ℕ) (at value : ℕ) → length word ≤ at → IsReadTo base word at value → Some value ≡ value_of base word
value_of-read base word at value all read =
    let whole : take at word ≡ word = take_all at word all in
    rw (list_all-digits base word (subst (AllDigits base) whole read.digits)) (ap Some (read.is ∙ ap (digits_value base) whole))
