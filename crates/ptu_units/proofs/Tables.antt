-- What the tables of rates and periods have at the place of a logarithm.
use Rattle.std.proofs.Common.{◌≡◌, ◌≤◌, ℕ, suc, zero, ◌*◌, List, [], ◌∷◌, get_or, refl, arith, leb, true, ◌&&◌, ℤ, pos, negsuc}
use Rattle.std.proofs.lemmas.{Bool.{and_parts, leb-true}, Int.{ints}}
use Rattle.ptu_units.specs.Log.{IsLog, place_of, rate_of, period_of}

abbrev rates : List ℕ
rates = 2048 ∷ 1024 ∷ 512 ∷ 256 ∷ 128 ∷ 64 ∷ 32 ∷ 16 ∷ 8 ∷ 4 ∷ 2 ∷ 1 ∷ []

abbrev periods : List ℕ
periods = 7812500 ∷ 15625000 ∷ 31250000 ∷ 62500000 ∷ 125000000 ∷ 250000000 ∷ 500000000 ∷ 1000000000 ∷ 2000000000 ∷ 4000000000 ∷ 8000000000 ∷ 16000000000 ∷ []

-- what is so of each of the twelve logarithms, from -7 to 4, is so of all
each_log : (P : ℤ → Type 0) → P (negsuc 6) → P (negsuc 5) → P (negsuc 4) → P (negsuc 3) → P (negsuc 2) → P (negsuc 1) → P (negsuc 0)
    → P (pos 0) → P (pos 1) → P (pos 2) → P (pos 3) → P (pos 4) → (l : ℤ) → IsLog l → P l
each_log P a b c d e f g h i j k m (pos zero) r = h
each_log P a b c d e f g h i j k m (pos (suc zero)) r = i
each_log P a b c d e f g h i j k m (pos (suc (suc zero))) r = j
each_log P a b c d e f g h i j k m (pos (suc (suc (suc zero)))) r = k
each_log P a b c d e f g h i j k m (pos (suc (suc (suc (suc zero))))) r = m
each_log P a b c d e f g h i j k m (pos (suc (suc (suc (suc (suc n)))))) r = absurd (omega (arith, ints, r.greatest))
each_log P a b c d e f g h i j k m (negsuc zero) r = g
each_log P a b c d e f g h i j k m (negsuc (suc zero)) r = f
each_log P a b c d e f g h i j k m (negsuc (suc (suc zero))) r = e
each_log P a b c d e f g h i j k m (negsuc (suc (suc (suc zero)))) r = d
each_log P a b c d e f g h i j k m (negsuc (suc (suc (suc (suc zero))))) r = c
each_log P a b c d e f g h i j k m (negsuc (suc (suc (suc (suc (suc zero)))))) r = b
each_log P a b c d e f g h i j k m (negsuc (suc (suc (suc (suc (suc (suc zero))))))) r = a
each_log P a b c d e f g h i j k m (negsuc (suc (suc (suc (suc (suc (suc (suc n)))))))) r = absurd (omega (arith, ints, r.least))

pub rate_at : (l : ℤ) → IsLog l → get_or rates (place_of l) 0 ≡ rate_of l
rate_at = each_log (λ l. get_or rates (place_of l) 0 ≡ rate_of l) refl refl refl refl refl refl refl refl refl refl refl refl

pub period_at : (l : ℤ) → IsLog l → get_or periods (place_of l) 0 ≡ period_of l
period_at = each_log (λ l. get_or periods (place_of l) 0 ≡ period_of l) refl refl refl refl refl refl refl refl refl refl refl refl

pub rate-mul-period : (l : ℤ) → IsLog l → rate_of l * period_of l ≡ 16 * 1000000000
rate-mul-period = each_log (λ l. rate_of l * period_of l ≡ 16 * 1000000000) refl refl refl refl refl refl refl refl refl refl refl refl

-- bounds by a test, which computes at a literal
within : (least n greatest : ℕ) → (leb least n && leb n greatest) ≡ true → (least ≤ n) × (n ≤ greatest)
within least n greatest is = (leb-true least n (and_parts (leb least n) (leb n greatest) is).0, leb-true n greatest (and_parts (leb least n) (leb n greatest) is).1)

pub rate_range : (l : ℤ) → IsLog l → (1 ≤ rate_of l) × (rate_of l ≤ 2048)
rate_range l r = within 1 (rate_of l) 2048 (each_log (λ l. (leb 1 (rate_of l) && leb (rate_of l) 2048) ≡ true) refl refl refl refl refl refl refl refl refl refl refl refl l r)

pub period_range : (l : ℤ) → IsLog l → (7812500 ≤ period_of l) × (period_of l ≤ 16000000000)
period_range l r =
    within 7812500 (period_of l) 16000000000 (each_log (λ l. (leb 7812500 (period_of l) && leb (period_of l) 16000000000) ≡ true) refl refl refl refl refl refl refl refl refl refl refl refl l r)
