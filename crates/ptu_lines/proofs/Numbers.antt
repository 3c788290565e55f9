-- The form of a number is what printing writes of a number.
use Rattle.std.proofs.Common.{◌≡◌, ℕ, suc, zero, ◌^◌, ◌<◌, ◌≤◌, nat_le, nat_lt, Bool, true, false, not, cond, ◌&&◌, ◌||◌, eqb, lit<, List, [], ◌∷◌, length, get_or, Option, Some, None, ℤ, pos, negsuc, ◌↔◌, refl, ap, subst, sym, ◌∙◌, inl, inr, ◌⊎◌, decimal, arith}
use Rattle.std.proofs.lemmas.Bool.{cases_lt, and_parts, lt-ltb, le-leb, ltb-true, leb-true, eqb-true, eq-eqb}
use Rattle.std.proofs.lemmas.Bool.Decides.{nat_tests}
use Rattle.std.proofs.lemmas.Fmt.{digits_decimal, digits_value-decimal, decimal-digits_value, decimal_nonempty, length-decimal-le, first_decimal, decimal_digit}
use Rattle.std.proofs.lemmas.{Int.Digits.{digits_value-lt}, Str.Parse.{IsNumeralModel}}
use Rattle.std.proofs.Math.Nat.{pow-le-pow_right}
use Rattle.std.specs.{Fmt.{signed_decimal}, Option.{option_and_then, option_map}}
use Rattle.std.specs.{Prelude.{unsigned_abs}, Char.{is_digit}, List.{list_all}}
use Rattle.std.specs.Str.Parse.{digits_value, AllDigits}
use Rattle.ptu_lines.specs.Words.{is_short, number_of, negative, has_sign, log_of}
use Rattle.ptu_lines.proofs.DecimalDigits.{list_all-digits}

pub numerals : IsNumeralModel (AllDigits 10) (digits_value 10)
numerals = record { to = λ ds h. h; from = λ ds h. h; same = λ ds h. refl }

-- what a short word is
pub record IsShort (word : List ℕ) : Type 0 where
  pub some : 0 < length word
  pub few : length word ≤ 19
  pub no_zero : get_or word 0 0 ≡ 48 → length word ≡ 1

short-by : (a b c d : Bool) → (a && b && (c || not d)) ≡ true → (a ≡ true) × (b ≡ true) × (d ≡ true → c ≡ true)
short-by true true true d e = (refl, refl, λ _. refl)
short-by true true false true e = absurd (cc)
short-by true true false false e = (refl, refl, λ h. h)
short-by true false c d e = absurd (cc)
short-by false b c d e = absurd (cc)

by-short : (a b c d : Bool) → a ≡ true → b ≡ true → (d ≡ true → c ≡ true) → (a && b && (c || not d)) ≡ true
by-short a b c true p q f = rw (p, q, f refl) refl
by-short a b true false p q f = rw (p, q) refl
by-short a b false false p q f = rw (p, q) refl

pub IsShort-from : (word : List ℕ) → is_short word ≡ true → IsShort word
IsShort-from word e =
    let parts = short-by (nat_lt 0 (length word)) (nat_le (length word) 19) (eqb (length word) 1) (eqb (get_or word 0 0) 48) e in
    record {
      some = ltb-true _ _ parts.0;
      few = leb-true _ _ parts.1;
      no_zero = λ first. eqb-true _ _ (parts.2 (eq-eqb _ _ first));
    }

pub is_short-from : (word : List ℕ) → IsShort word → is_short word ≡ true
is_short-from word h =
    by-short (nat_lt 0 (length word)) (nat_le (length word) 19) (eqb (length word) 1) (eqb (get_or word 0 0) 48)
    (lt-ltb _ _ h.some) (le-leb _ _ h.few) (λ first. eq-eqb _ _ (h.no_zero (eqb-true _ _ first)))

digits-list_all : (word : List ℕ) → list_all (λ octet. is_digit octet 10) word ≡ true → AllDigits 10 word
digits-list_all [] e = tt
digits-list_all (octet ∷ word) e =
    let parts = and_parts (is_digit octet 10) (list_all (λ c. is_digit c 10) word) e in
    (ltb-true _ _ parts.0, digits-list_all word parts.1)

-- a word that a number is printed as has the form
pub number_of-decimal : (n : ℕ) → n < 10 ^ 19 → number_of (decimal n) ≡ Some n
number_of-decimal n small =
    let fits : n < 2 ^ 64 = omega arith in
    let digits = digits_decimal numerals n fits in
    let short : IsShort (decimal n) = record { some = decimal_nonempty n fits; few = length-decimal-le 19 n (lit< tt) small fits; no_zero = one (cases_lt 0 n) } in
    rw (is_short-from (decimal n) short, list_all-digits 10 (decimal n) digits) (ap Some (digits_value-decimal numerals n fits))
  where
    one : (0 < n) ⊎ (n ≤ 0) → get_or (decimal n) 0 0 ≡ 48 → length (decimal n) ≡ 1
    one (inl above) first = absurd (omega (arith, first_decimal n above (omega arith)))
    one (inr none) first = ap length (decimal_digit n (omega arith))

-- and no other word has
pub decimal-number_of : (word : List ℕ) (n : ℕ) → number_of word ≡ Some n → (word ≡ decimal n) × (n < 10 ^ 19)
decimal-number_of word n e = go (is_short word) refl (list_all (λ octet. is_digit octet 10) word) refl e
  where
    go : (short : Bool) → is_short word ≡ short → (digits : Bool) → list_all (λ octet. is_digit octet 10) word ≡ digits
        → cond short (cond digits (Some (digits_value 10 word)) None) None ≡ Some n → (word ≡ decimal n) × (n < 10 ^ 19)
    go false s digits d e' = absurd (cc)
    go true s false d e' = absurd (cc)
    go true s true d e' =
        let short = IsShort-from word s in
        let digits = digits-list_all word d in
        let value : digits_value 10 word ≡ n = cc in
        let below : digits_value 10 word < 10 ^ length word = digits_value-lt 10 word digits in
        let most : 10 ^ length word ≤ 10 ^ 19 = pow-le-pow_right (lit< tt) short.few in
        let small : digits_value 10 word < 10 ^ 19 = omega arith in
        (sym (decimal-digits_value numerals word digits short.some short.no_zero (omega arith)) ∙ ap decimal value, subst (λ m. m < 10 ^ 19) value small)

pub number_of-iff : (word : List ℕ) (n : ℕ) → (number_of word ≡ Some n) ↔ ((word ≡ decimal n) × (n < 10 ^ 19))
number_of-iff word n = (decimal-number_of word n, λ h. ap number_of h.0 ∙ number_of-decimal n h.1)

-- a number with its sign
negated : (o : Option ℕ) (z : ℤ) → option_and_then negative o ≡ Some z → (n : ℕ) × (o ≡ Some (suc n)) × (z ≡ negsuc n)
negated None z e = absurd (cc)
negated (Some zero) z e = absurd (cc)
negated (Some (suc n)) z e = (n, refl, (let same : negsuc n ≡ z = cc in sym same))

plain : (o : Option ℕ) (z : ℤ) → option_map pos o ≡ Some z → (n : ℕ) × (o ≡ Some n) × (z ≡ pos n)
plain None z e = absurd (cc)
plain (Some n) z e = (n, refl, (let same : pos n ≡ z = cc in sym same))

pub log_of-printed : (word : List ℕ) (z : ℤ) → log_of word ≡ Some z → (word ≡ signed_decimal z) × (unsigned_abs z < 10 ^ 19)
log_of-printed [] z e = absurd (let d = plain (number_of []) z e in let none : number_of [] ≡ None = refl in (let never : None ≡ Some d.0 = sym none ∙ d.1 in cc))
log_of-printed (octet ∷ rest) z e = go (eqb octet 45) refl e
  where
    go : (b : Bool) → eqb octet 45 ≡ b → cond b (option_and_then negative (number_of rest)) (option_map pos (number_of (octet ∷ rest))) ≡ Some z
        → (octet ∷ rest ≡ signed_decimal z) × (unsigned_abs z < 10 ^ 19)
    go true is e' =
        let d = negated (number_of rest) z e' in
        let form = decimal-number_of rest (suc d.0) d.1 in
        rw d.2 (rw (eqb-true octet 45 is, ← form.0) refl, form.1)
    go false is e' =
        let d = plain (number_of (octet ∷ rest)) z e' in
        let form = decimal-number_of (octet ∷ rest) d.0 d.1 in
        rw d.2 form

no_sign : (word : List ℕ) → 48 ≤ get_or word 0 0 → has_sign word ≡ false
no_sign [] h = refl
no_sign (octet ∷ rest) h = grind (arith, nat_tests)

decimal-first : (n : ℕ) → n < 10 ^ 19 → 48 ≤ get_or (decimal n) 0 0
decimal-first n small = go (cases_lt 0 n)
  where
    go : (0 < n) ⊎ (n ≤ 0) → 48 ≤ get_or (decimal n) 0 0
    go (inl above) = omega (arith, first_decimal n above (omega arith))
    go (inr none) = rw (decimal_digit n (omega arith)) (omega arith)

pub printed-log_of : (z : ℤ) → unsigned_abs z < 10 ^ 19 → log_of (signed_decimal z) ≡ Some z
printed-log_of (pos n) small = rw (no_sign (decimal n) (decimal-first n small), number_of-decimal n small) refl
printed-log_of (negsuc n) small = rw (number_of-decimal (suc n) small) refl

pub log_of-iff : (word : List ℕ) (z : ℤ) → (log_of word ≡ Some z) ↔ ((word ≡ signed_decimal z) × (unsigned_abs z < 10 ^ 19))
log_of-iff word z = (log_of-printed word z, λ h. ap log_of h.0 ∙ printed-log_of z h.1)
