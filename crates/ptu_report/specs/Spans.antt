-- Texts that stand one behind the other in octets.
use Rattle.std.specs.{Prelude.{ℕ, ◌≤◌, List, map, length, slice_range}, List.{AllByRecursion}}
use Rattle.ptu_report.specs.declared.span.Span.{Span}

-- the octets of a span
abbrev pub text_in : List ℕ → Span → List ℕ
text_in octets span = slice_range octets span.start span.end

abbrev pub texts_in : List ℕ → List Span → List (List ℕ)
texts_in octets spans = map (text_in octets) spans

-- each span is a range of the octets
abbrev pub AreWithin : List ℕ → List Span → Type 0
AreWithin octets spans = AllByRecursion (λ (s : Span). (s.start ≤ s.end) × (s.end ≤ length octets)) spans
