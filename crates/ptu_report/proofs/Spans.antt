-- Texts that stand one behind the other, and one more.
use Rattle.std.proofs.Common.{◌≡◌, ℕ, ◌+◌, ◌-◌, ◌≤◌, List, [], ◌∷◌, ◌++◌, length, take, drop, Result, Ok, Err, OnOk, refl, ap, ◌∙◌, arith, length-append, length-drop}
use Rattle.std.specs.List.{slice_range}
use Rattle.std.proofs.lemmas.List.{drop-append-le, take-append-le, map-append}
use Rattle.std.proofs.Math.Seq.{drop-append_seam, take-length}
use Rattle.ptu_outside.proofs.Slots.{range-append}
use Rattle.ptu_report.specs.{declared.span.Span.{Span}, Spans.{AreWithin, text_in, texts_in}}

-- octets that come behind change no text
texts-append : (octets more : List ℕ) (spans : List Span) → AreWithin octets spans → texts_in (octets ++ more) spans ≡ texts_in octets spans
texts-append octets more [] all = refl
texts-append octets more (s ∷ ss) all =
    rw (range-append octets more s.start s.end all.0.0 all.0.1, texts-append octets more ss all.1) refl

within-append : (octets more : List ℕ) (spans : List Span) → AreWithin octets spans → AreWithin (octets ++ more) spans
within-append octets more [] all = tt
within-append octets more (s ∷ ss) all = ((all.0.0, omega (arith, length-append octets more, all.0.1)), within-append octets more ss all.1)

within-more : (octets : List ℕ) (spans : List Span) (s : Span) → AreWithin octets spans → s.start ≤ s.end → s.end ≤ length octets → AreWithin octets (spans ++ s ∷ [])
within-more octets [] s all le within = ((le, within), tt)
within-more octets (x ∷ xs) s all le within = (all.0, within-more octets xs s all.1 le within)

-- the span of the octets that come behind
abbrev pub IsSpanOf : List ℕ → List ℕ → Span → Type 0
IsSpanOf octets more s = (s.start ≡ length octets) × (s.end ≡ length (octets ++ more))

pub within-push : (octets more : List ℕ) (spans : List Span) (s : Span) → AreWithin octets spans → IsSpanOf octets more s → AreWithin (octets ++ more) (spans ++ s ∷ [])
within-push octets more spans s h at =
    within-more (octets ++ more) spans s (within-append octets more spans h) (omega (arith, at.0, at.1, length-append octets more)) (omega (arith, at.1))

pub texts-push : (octets more : List ℕ) (spans : List Span) (s : Span) → AreWithin octets spans → IsSpanOf octets more s
    → texts_in (octets ++ more) (spans ++ s ∷ []) ≡ texts_in octets spans ++ more ∷ []
texts-push octets more spans s h at =
    let behind : slice_range (octets ++ more) s.start s.end ≡ more =
    rw (at.0, drop-append_seam octets more) (ap (λ n. take n more) (omega (arith, at.0, at.1, length-append octets more)) ∙ take-length more) in
    map-append (text_in (octets ++ more)) spans (s ∷ []) ∙ rw (texts-append octets more spans h, behind) refl

-- a text more, where it was added
pub texts_added : {A E : Type 0} (added : Result A E) (old new more : List ℕ) (spans all : List Span) → AreWithin old spans → OnOk added (new ≡ old ++ more)
    → OnOk added (all ≡ spans ++ record { start = length old; end = length new } ∷ []) → OnOk added (texts_in new all ≡ texts_in old spans ++ more ∷ [])
texts_added (Ok x) old new more spans all h octets is = rw (is, octets) (texts-push old more spans _ h (refl, refl))
texts_added (Err e) old new more spans all h octets is = tt
