-- A number in a range that lies in another range.
use Rattle.std.proofs.Common.{◌≡◌, ℕ, List, Bool, true, false, T, Option, Some, None, refl, subst, sym, ℤ, pos, negsuc, arith}
use Rattle.std.proofs.{lemmas.Int.{ints}, Math.Bool.{and-false}}
use Rattle.std.specs.{Option.{option_and_then}, Prelude.{int_le}, Int.Signed.{◌≤ℤ◌, le_z_yes}}
use Rattle.ptu_units.specs.declared.kind.{Kind.{Kind}, Kind.TheVariants.{Announce, DelayResp, Sync}}
use Rattle.ptu_units.specs.Log.{least_log}
use Rattle.ptu_lines.specs.Words.{int_within, log_of, log_within}

-- where a test holds only if another does, and that one fails, so does it
fails_with : (a b c d : ℤ) → (a ≤ℤ b → c ≤ℤ d) → int_le c d ≡ false → int_le a b ≡ false
fails_with a b c d f e = go (int_le a b) refl
  where
    go : (test : Bool) → int_le a b ≡ test → test ≡ false
    go false is = refl
    go true is = absurd (subst T e (f (le_z_yes (subst T (sym is) tt))).le)

at_least : (z low least : ℤ) → low ≤ℤ least → least ≤ℤ z → low ≤ℤ z
at_least z low least h k = omega (arith, ints)

at_most : (z high greatest : ℤ) → greatest ≤ℤ high → z ≤ℤ greatest → z ≤ℤ high
at_most z high greatest h k = omega (arith, ints)

narrower_at : (z least greatest low high : ℤ) → low ≤ℤ least → greatest ≤ℤ high
    → int_within least greatest z ≡ option_and_then (int_within least greatest) (int_within low high z)
narrower_at z least greatest low high l h = go (int_le low z) refl (int_le z high) refl
  where
    go : (above : Bool) → int_le low z ≡ above → (below : Bool) → int_le z high ≡ below
        → int_within least greatest z ≡ option_and_then (int_within least greatest) (int_within low high z)
    go true a true b = rw (a, b) refl
    go false a below b = rw (a, fails_with least z low z (at_least z low least l) a) refl
    go true a false b = rw (a, b, fails_with z greatest z high (at_most z high greatest h) b, and-false (int_le least z)) refl

pub narrower : (o : Option ℤ) (least greatest low high : ℤ) → low ≤ℤ least → greatest ≤ℤ high
    → option_and_then (int_within least greatest) o ≡ option_and_then (int_within least greatest) (option_and_then (int_within low high) o)
narrower None least greatest low high l h = refl
narrower (Some z) least greatest low high l h = narrower_at z least greatest low high l h

least_wide : (kind : Kind) → negsuc 127 ≤ℤ least_log kind
least_wide Announce = omega (arith, ints)
least_wide Sync = omega (arith, ints)
least_wide DelayResp = omega (arith, ints)

-- the range of a kind is within -128 to 127
pub log_of_kind_wide : (kind : Kind) (word : List ℕ)
    → option_and_then (int_within (least_log kind) (pos 4)) (log_within word (negsuc 127) (pos 127)) ≡ log_within word (least_log kind) (pos 4)
log_of_kind_wide kind word = sym (narrower (log_of word) (least_log kind) (pos 4) (negsuc 127) (pos 127) (least_wide kind) (omega (arith, ints)))
