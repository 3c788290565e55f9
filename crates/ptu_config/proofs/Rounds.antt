-- Whether a document names a round of change.
use Rattle.std.proofs.Common.{◌≡◌, ℕ, zero, suc, nat_lt, ◌&&◌, nat_le, Option, Some, None, option_map, pos, negsuc, codes, arith, inl, inr, le-leb}
use Rattle.std.proofs.lemmas.Bool.{cases_Bool}
use Rattle.ptu_lines.specs.Words.{within}
use Rattle.toml.specs.Data.{Data, string, integer, float, boolean, datetime, array, table, Members, get_member}
use Rattle.ptu_config.specs.{declared.key.Key.TheVariants.{ChangeRound}, Forms.{given}}
use Rattle.ptu_config.specs.Rules.{number, whole, value_of, is_above_zero, setting_of}

same_number : (a b : ℕ) → Some (number a) ≡ Some (number b) → a ≡ b
same_number a b said = cc

within_same : (least greatest k n : ℕ) →
    option_map number (within least greatest k) ≡ Some (number n) → k ≡ n
within_same least greatest k n said =
    elim (cases_Bool (nat_le least k && nat_le k greatest)) [
      | inl inside ↦ same_number k n (rw inside at said)
      | inr outside ↦ let nothing : None ≡ Some (number n) = rw outside at said in cc
    ]

-- the number that is said is above 0 where the value is
above : (found : Option Data) (n : ℕ) →
    given (value_of (whole 0 4294967295)) (Some (number 0)) found ≡ Some (number n) →
    is_above_zero found ≡ nat_lt 0 n
above None n said = rw (← same_number 0 n said)
above (Some (integer (pos zero))) n said = rw (← within_same 0 4294967295 0 n said)
above (Some (integer (pos (suc k)))) n said =
    rw (← within_same 0 4294967295 (suc k) n said, le-leb 1 (suc k) (omega arith))
above (Some (integer (negsuc k))) n said = cc
above (Some (string s)) n said = cc
above (Some (float x)) n said = cc
above (Some (boolean b)) n said = cc
above (Some (datetime d)) n said = cc
above (Some (array items)) n said = cc
above (Some (table _)) n said = cc

pub is_named : (document : Members) (n : ℕ) → setting_of document ChangeRound ≡ Some (number n) →
    is_above_zero (get_member (codes "change_round") document) ≡ nat_lt 0 n
unfolding setting_of
is_named document n said = above (get_member (codes "change_round") document) n said
