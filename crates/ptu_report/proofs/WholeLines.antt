-- The lines that are whole in the octets that were taken.
use Rattle.std.proofs.Common.{◌≡◌, ◌∙◌, ℕ, nat_lt, Bool, true, false, cond, List, [], ◌∷◌, ◌++◌, length, refl, sym, ap, append_assoc, arith}
use Rattle.std.specs.List.{filter, flat_map}
use Rattle.std.proofs.lemmas.{Bool.{lt-ltb, le-ltb}, List.{append-nil, length-append}}
use Rattle.std.proofs.Math.Nat.{le_refl}
use Rattle.ptu_lines.specs.Script.{AreEnded, HasNoEnd, pieces, text_of}
use Rattle.ptu_lines.proofs.Cutting.{pieces-last, pieces-line, text_of-append, text_of-line}
use Rattle.ptu_report.specs.Reported.{has_end}

kept : (line : List ℕ) (lines : List (List ℕ)) → has_end line ≡ true → filter has_end (line ∷ lines) ≡ line ∷ filter has_end lines
kept line lines e = ap (λ (b : Bool). cond b (line ∷ filter has_end lines) (filter has_end lines)) e

dropped : (line : List ℕ) → has_end line ≡ false → filter has_end (line ∷ []) ≡ []
dropped line e = ap (λ (b : Bool). cond b (line ∷ []) []) e

no_end : (line : List ℕ) → HasNoEnd line → has_end line ≡ false
no_end line h =
    let text : text_of line ≡ line = ap text_of (sym (append-nil line)) ∙ (text_of-append line [] h ∙ append-nil line) in
    ap (λ t. nat_lt (length t) (length line)) text ∙ le-ltb (length line) (length line) (le_refl (length line))

ended : (text : List ℕ) → HasNoEnd text → has_end (text ++ 10 ∷ []) ≡ true
ended text h =
    ap (λ t. nat_lt (length t) (length (text ++ 10 ∷ []))) (text_of-line text [] h)
    ∙ lt-ltb (length text) (length (text ++ 10 ∷ [])) (omega (arith, length-append text (10 ∷ [])))

last_dropped : (waiting : List ℕ) → HasNoEnd waiting → filter has_end (pieces waiting) ≡ []
last_dropped [] h = refl
last_dropped (x ∷ xs) h = ap (filter has_end) (pieces-last x xs h) ∙ dropped (x ∷ xs) (no_end (x ∷ xs) h)

-- lines that are ended, and octets without an end behind them
pub whole_are : (lines : List (List ℕ)) (waiting : List ℕ) → AreEnded lines → HasNoEnd waiting → filter has_end (pieces (flat_map (λ line. line) lines ++ waiting)) ≡ lines
whole_are [] waiting h none = last_dropped waiting none
whole_are (line ∷ lines) waiting h none =
    let text = h.0.0 in
    let is : line ≡ text ++ 10 ∷ [] = h.0.2 in
    let rest = flat_map (λ line. line) lines ++ waiting in
    let cut : pieces ((line ++ flat_map (λ line. line) lines) ++ waiting) ≡ (text ++ 10 ∷ []) ∷ pieces rest =
    ap pieces (append_assoc line (flat_map (λ line. line) lines) waiting ∙ (ap (λ l. l ++ rest) is ∙ append_assoc text (10 ∷ []) rest)) ∙ pieces-line text rest h.0.1 in
    ap (filter has_end) cut ∙ (kept (text ++ 10 ∷ []) (pieces rest) (ended text h.0.1) ∙ (ap (λ ls. (text ++ 10 ∷ []) ∷ ls) (whole_are lines waiting h.1 none) ∙ ap (λ l. l ∷ lines) (sym is)))
