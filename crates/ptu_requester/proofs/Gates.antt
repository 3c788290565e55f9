-- The gate of an ask, from what is kept.
use Rattle.std.proofs.Common.{◌≡◌, ℕ, ◌+◌, ◌*◌, max, Bool, true, false, cond, [], ◌∷◌, Option, Some, None, refl, ap, sym, ◌∙◌, arith}
use Rattle.std.proofs.lemmas.Bool.{cond-true, cond-false}
use Rattle.std.specs.{List.{flat_map}, Option.{option_map, option_to_list, unwrap_or}}
use Rattle.ptu_units.specs.declared.kind.Kind.{Kind}
use Rattle.ptu_record.specs.{Lists.{maximum}, Record.{Record}, Grants.{is_live}}
use Rattle.ptu_record.specs.Asks.{renewal_gate}
use Rattle.ptu_requester.specs.declared.negotiation.{Negotiation.{Negotiation}, Term.{Term}}
use Rattle.ptu_requester.specs.Negotiation.{IsKept, term_of}

-- the greatest of three moments, as far as they exist
pub greatest_of_three : (a b c : Option ℕ) → max (max (unwrap_or a 0) (unwrap_or b 0)) (unwrap_or c 0) ≡ maximum (flat_map option_to_list (a ∷ b ∷ c ∷ []))
greatest_of_three None None None = omega arith
greatest_of_three None None (Some c) = omega arith
greatest_of_three None (Some b) None = omega arith
greatest_of_three None (Some b) (Some c) = omega arith
greatest_of_three (Some a) None None = omega arith
greatest_of_three (Some a) None (Some c) = omega arith
greatest_of_three (Some a) (Some b) None = omega arith
greatest_of_three (Some a) (Some b) (Some c) = omega arith

-- the gate of a renewal: half of the live grant, and none where no grant is live
pub renewal_live : (k : Kind) (L : Record) (t : ℕ) (n : Negotiation) (term : Term) → IsKept k L n → n.granted ≡ Some term → is_live k L t ≡ true
    → term.at + term.seconds * 500000000 ≡ unwrap_or (renewal_gate k L t) 0
renewal_live k L t n term h is live =
    sym (ap (λ o. unwrap_or o 0) (cond-true _ _ _ live ∙ ap (option_map (λ (g : ℕ × ℕ). g.0 + g.1 * 500000000)) (sym (ap (λ s. s.granted) h.state) ∙ ap (option_map term_of) is)))

pub renewal_over : (k : Kind) (L : Record) (t : ℕ) → is_live k L t ≡ false → 0 ≡ unwrap_or (renewal_gate k L t) 0
renewal_over k L t over = sym (ap (λ o. unwrap_or o 0) (cond-false _ _ _ over))

pub renewal_none : (k : Kind) (L : Record) (t : ℕ) (n : Negotiation) → IsKept k L n → n.granted ≡ None → 0 ≡ unwrap_or (renewal_gate k L t) 0
renewal_none k L t n h is = sym (ap half (sym (ap (λ s. s.granted) h.state) ∙ ap (option_map term_of) is) ∙ none (is_live k L t))
  where
    half : Option (ℕ × ℕ) → ℕ
    half o = unwrap_or (cond (is_live k L t) (option_map (λ (g : ℕ × ℕ). g.0 + g.1 * 500000000) o) None) 0

    none : (b : Bool) → unwrap_or {T = ℕ} (cond b None None) 0 ≡ 0
    none true = refl
    none false = refl
