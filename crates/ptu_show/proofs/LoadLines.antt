-- The lines of octets in which each of some short plain texts ends with a 0A.
use Rattle.std.proofs.Common.{◌≡◌, ◌∙◌, ℕ, ◌+◌, ◌*◌, ◌≤◌, min, nat_lt, nat_le, ◌&&◌, Bool, true, false, if◌then◌else◌, List, [], ◌∷◌, ◌++◌, length, map, Option, Some, None, refl, ap, append_assoc, arith}
use Rattle.std.specs.List.{AllByRecursion, list_all}
use Rattle.std.proofs.lemmas.{Bool.{and_parts, le-ltb, leb-true}, Bool.Decides.{nat_tests}}
use Rattle.std.proofs.lemmas.List.{length-append}
use Rattle.ptu_outside.specs.Handing.{joined}
use Rattle.ptu_lines.specs.declared.cause.LineCause.{LineCause}
use Rattle.ptu_lines.specs.declared.cause.LineCause.TheVariants.{Size, Long, Text}
use Rattle.ptu_lines.specs.Script.{HasNoEnd, Whole, cause_of, is_end, is_plain, line_then, lines_from, pieces, text_of}
use Rattle.ptu_lines.proofs.Cutting.{pieces-line, text_of-line}

-- a text with the 0A at its end
abbrev pub ended : List ℕ → List ℕ
ended text = text ++ 10 ∷ []

-- a text of at most 254 octets, all of them plain
pub record IsShortText (text : List ℕ) : Type 0 where
  pub plain : list_all is_plain text ≡ true
  pub short : length text ≤ 254

not_end : (octet : ℕ) → is_plain octet ≡ true → is_end octet ≡ false
not_end octet e =
    let low : 32 ≤ octet = leb-true 32 octet (and_parts (nat_le 32 octet) (nat_le octet 126) e).0 in
    grind (arith, nat_tests)

no_end : (text : List ℕ) → list_all is_plain text ≡ true → HasNoEnd text
no_end [] e = tt
no_end (octet ∷ rest) e =
    let parts = and_parts (is_plain octet) (list_all is_plain rest) e in
    (not_end octet parts.0, no_end rest parts.1)

abbrev cause_by : Bool → Bool → Bool → Bool → Option LineCause
cause_by near past long plain = if near && past then Some Size else if long then Some Long else if plain then None else Some Text

none_by : (near past long plain : Bool) → past ≡ false → long ≡ false → plain ≡ true → cause_by near past long plain ≡ None
none_by true past long plain p l q = rw (p, l, q) refl
none_by false past long plain p l q = rw (l, q) refl

text_is : (text : List ℕ) → IsShortText text → text_of (ended text) ≡ text
text_is text h = text_of-line text [] (no_end text h.plain)

not_refused : (before : ℕ) (text : List ℕ) → IsShortText text → before + 255 ≤ 67108864 → cause_of before (ended text) ≡ None
not_refused before text h le =
    let whole = text_is text h in
    let size : length (ended text) ≡ length text + 1 = length-append text (10 ∷ []) in
    none_by (nat_le before 67108864) (nat_lt 67108864 (before + min (length (ended text)) 8193)) (nat_lt 8192 (length (text_of (ended text)))) (list_all is_plain (text_of (ended text)))
    (le-ltb 67108864 (before + min (length (ended text)) 8193) (omega (arith, size, h.short)))
    (le-ltb 8192 (length (text_of (ended text))) (omega (arith, ap length whole, h.short)))
    (ap (list_all is_plain) whole ∙ h.plain)

pub lines_whole : (texts : List (List ℕ)) (before : ℕ) → AllByRecursion IsShortText texts → before + 255 * length texts ≤ 67108864
    → lines_from before (pieces (joined (map ended texts))) ≡ map Whole texts
lines_whole [] before h le = refl
lines_whole (text ∷ rest) before h le =
    let more = joined (map ended rest) in
    let after = before + length (ended text) in
    let size : length (ended text) ≡ length text + 1 = length-append text (10 ∷ []) in
    ap (lines_from before) (ap pieces (append_assoc text (10 ∷ []) more) ∙ pieces-line text more (no_end text h.0.plain))
    ∙ ap (λ c. line_then (ended text) c (lines_from after (pieces more))) (not_refused before text h.0 (omega (arith, le)))
    ∙ ap (λ t. Whole t ∷ lines_from after (pieces more)) (text_is text h.0)
    ∙ ap (λ lines. Whole text ∷ lines) (lines_whole rest after h.1 (omega (arith, le, size, h.0.short)))
