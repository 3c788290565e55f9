-- Words that are put into the places of a form one after the other.
use Rattle.std.proofs.Common.{◌≡◌, ◌∙◌, inl, inr, ℕ, ◌+◌, ◌-◌, ◌≤◌, Bool, true, false, ◌&&◌, ◌==◌, List, [], ◌∷◌, length, drop, Option, Some, None, refl, sym, ap, arith}
use Rattle.std.specs.Prelude.{slice_get}
use Rattle.std.proofs.lemmas.Option.{slice_get_cases, slice_get_within, get_or_from_slice_get}
use Rattle.std.proofs.lemmas.{List.{drop_more, drop_all}, List.Splits.{length-slice_split}}
use Rattle.std.proofs.lemmas.List.Sums.{count_by-le-length}
use Rattle.ptu_lines.specs.Words.{word_of, words_of}
use Rattle.ptu_audit_lines.specs.Forms.{fit, is_in_place, is_some_in_place}

word_at : (line : List ℕ) (k : ℕ) → 1 ≤ k → word_of line k ≡ slice_get (words_of line) (k - 1)
word_at line k le = grind arith

-- what is left of a list begins with the element at the place where it is cut
abbrev pub cut : {X : Type 0} → Option X → List X → List X
cut None rest = []
cut (Some x) rest = x ∷ rest

cut_within : {X : Type 0} (xs : List X) (i : ℕ) (x : X) → slice_get xs i ≡ Some x → drop i xs ≡ x ∷ drop (i + 1) xs
cut_within xs i x e = drop_more xs i x (slice_get_within xs i x e) ∙ ap (λ y. y ∷ drop (i + 1) xs) (get_or_from_slice_get xs i x x e)

pub cut_at : {X : Type 0} (xs : List X) (i : ℕ) → drop i xs ≡ cut (slice_get xs i) (drop (i + 1) xs)
cut_at xs i = elim ((slice_get_cases xs i).1) as (λ _. drop i xs ≡ cut (slice_get xs i) (drop (i + 1) xs)) [
  | inl found ↦ rw found.2 (cut_within xs i found.0 found.2)
  | inr past ↦ rw past.1 (drop_all i xs past.0)
]

-- what is left of a form and of a line, by their next words
abbrev pub fit_next : Option (List ℕ) → Option (List ℕ) → Bool → Bool
fit_next None None rest = true
fit_next (Some place) (Some word) rest = is_in_place place word && rest
fit_next _ _ rest = false

fit_next-some : (place : List ℕ) (word : Option (List ℕ)) (rest : Bool) → fit_next (Some place) word rest ≡ (is_some_in_place place word && rest)
fit_next-some place (Some word) rest = refl
fit_next-some place None rest = refl

fit_cut : (place word : Option (List ℕ)) (places words : List (List ℕ)) → fit (cut place places) (cut word words) ≡ fit_next place word (fit places words)
fit_cut None None places words = refl
fit_cut None (Some word) places words = refl
fit_cut (Some place) None places words = refl
fit_cut (Some place) (Some word) places words = refl

-- what is left from one place on
abbrev pub fit_from : List ℕ → List ℕ → ℕ → Bool
fit_from form line k = fit (drop (k - 1) (words_of form)) (drop (k - 1) (words_of line))

pub one_place : (form line : List ℕ) (k : ℕ) → 1 ≤ k → fit_from form line k ≡ fit_next (word_of form k) (word_of line k) (fit_from form line (k + 1))
one_place form line k le =
    let same : k - 1 + 1 ≡ k + 1 - 1 = omega (arith, le) in
    (λ i. fit (cut_at (words_of form) (k - 1) i) (cut_at (words_of line) (k - 1) i))
    ∙ (fit_cut (slice_get (words_of form) (k - 1)) (slice_get (words_of line) (k - 1)) (drop (k - 1 + 1) (words_of form)) (drop (k - 1 + 1) (words_of line))
    ∙ (λ i. fit_next (sym (word_at form k le) i) (sym (word_at line k le) i) (fit (drop (same i) (words_of form)) (drop (same i) (words_of line)))))

pub word_within : (line : List ℕ) (k : ℕ) (word : List ℕ) → 1 ≤ k → word_of line k ≡ Some word → k ≤ length (words_of line)
word_within line k word le e = omega (arith, slice_get_within (words_of line) (k - 1) word (sym (word_at line k le) ∙ e))

-- of a form that has a place there
pub one_filled : (form line : List ℕ) (k : ℕ) (place : List ℕ) → 1 ≤ k → Some place ≡ word_of form k →
    fit_from form line k ≡ (is_some_in_place place (word_of line k) && fit_from form line (k + 1))
one_filled form line k place le is =
    one_place form line k le ∙ ((λ i. fit_next (sym is i) (word_of line k) (fit_from form line (k + 1))) ∙ fit_next-some place (word_of line k) (fit_from form line (k + 1)))

pub filled_within : (line : List ℕ) (k : ℕ) (place : List ℕ) (word : Option (List ℕ)) → 1 ≤ k → word_of line k ≡ word → is_some_in_place place word ≡ true →
    k ≤ length (words_of line)
filled_within line k place (Some word) le e is = word_within line k word le e
filled_within line k place None le e is = absurd (cc is)

-- a line has at most one word more than octets
pub words_few : (line : List ℕ) → length (words_of line) ≤ length line + 1
words_few line = omega (arith, length-slice_split (λ octet. octet == 32) line, count_by-le-length (λ octet. octet == 32) line)
