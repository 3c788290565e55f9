-- Whom a grandmaster heeds, and what a newline at the end of a line changes: nothing.
use Rattle.std.proofs.Common.{◌≡◌, ◌∙◌, ◌↔◌, ◌-◌, ◌&&◌, ℕ, List, [], ◌∷◌, ◌++◌, length, take, drop, if◌then◌else◌, Bool, true, false, Option, Some, None, Result, refl, sym, ap, length-append, arith}
use Rattle.std.specs.{Prelude.{IsSome}, List.{list_all}}
use Rattle.std.proofs.Math.Seq.{drop-append_seam, take-append_seam}
use Rattle.std.proofs.lemmas.{Bool.{eqb-true, eq-eqb}, List.{take-append-drop}, Slice.Eq.{bytes_eq-Decides}}
use Rattle.ptu_lines.specs.{Script.{is_plain}, Words.{clock_of}}
use Rattle.ptu_config.specs.declared.{command.Command.{Command}, command.Cause.{Cause}}
use Rattle.ptu_config.specs.Commands.{commanded, has_key, is_ended, request_line, order_asked, word_or_empty}

had : (key : ℕ) (found : Option ℕ) → has_key key found ≡ true → found ≡ Some key
had key None is = cc
had key (Some other) is = ap Some (eqb-true other key is)

has : (key : ℕ) (found : Option ℕ) → found ≡ Some key → has_key key found ≡ true
has key found is = rw is (eq-eqb key key refl)

-- a line is heeded where both tests are passed
both : (plain : Bool) (key : ℕ) (found : Option ℕ) (asked : Result Command Cause) →
    IsSome (if plain && has_key key found then Some asked else None) → (plain ≡ true) × (found ≡ Some key)
both false key found asked some = cc
both true key found asked some = (refl, by (has_key key found) refl some)
  where
    by : (test : Bool) → has_key key found ≡ test → IsSome (if test then Some asked else None) → found ≡ Some key
    by true is some' = had key found is
    by false is some' = cc

pub heeded : (key : ℕ) (octets : List ℕ) → IsSome (order_asked key octets) ↔
    ((list_all is_plain (request_line octets) ≡ true) × (clock_of (word_or_empty (request_line octets) 1) ≡ Some key))
unfolding order_asked
heeded key octets = (
  both (list_all is_plain (request_line octets)) key (clock_of (word_or_empty (request_line octets) 1)) (commanded (request_line octets)),
  λ h. rw (h.0, has key (clock_of (word_or_empty (request_line octets) 1)) h.1) refl,
)

-- a newline at the end is cut off
without_newline : (line : List ℕ) → request_line (line ++ 10 ∷ []) ≡ line
without_newline line =
    let before : length (line ++ 10 ∷ []) - 1 ≡ length line = omega (arith, length-append line (10 ∷ [])) in
    rw (before, drop-append_seam line (10 ∷ [])) (take-append_seam line (10 ∷ []))

no_newline : (line : List ℕ) → list_all is_plain (line ++ 10 ∷ []) ≡ true → ⊥
no_newline [] plain = cc
no_newline (octet ∷ rest) plain = no_newline rest (by (is_plain octet) plain)
  where
    by : (test : Bool) → (test && list_all is_plain (rest ++ 10 ∷ [])) ≡ true → list_all is_plain (rest ++ 10 ∷ []) ≡ true
    by true all = all
    by false all = cc

-- plain text has none
as_it_is : (line : List ℕ) → list_all is_plain line ≡ true → request_line line ≡ line
as_it_is line plain = by (is_ended line) refl
  where
    by : (test : Bool) → is_ended line ≡ test → (if test then take (length line - 1) line else line) ≡ line
    by false is = refl
    by true is =
        let front : List ℕ = take (length line - 1) line in
        let end : List ℕ = drop (length line - 1) line in
        let whole : front ++ end ≡ line = take-append-drop (length line - 1) line in
        let parts : front ++ 10 ∷ [] ≡ line = sym (ap (λ last. front ++ last) ((bytes_eq-Decides end (10 ∷ [])).0 is)) ∙ whole in
        absurd (no_newline front (rw parts plain))

pub ended : (key : ℕ) (line : List ℕ) → list_all is_plain line ≡ true → order_asked key (line ++ 10 ∷ []) ≡ order_asked key line
unfolding order_asked
ended key line plain = rw (without_newline line, as_it_is line plain) refl
