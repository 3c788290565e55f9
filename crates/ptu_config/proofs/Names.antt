-- The names of a table's keys.
use Rattle.std.proofs.Common.{◌≡◌, ◌↔◌, ℕ, Bool, true, false, ◌&&◌, List, [], ◌∷◌, String, Global, string_bytes, refl, sym, ap, ◌∙◌}
use Rattle.std.specs.{Prelude.{IsTrue}, List.{list_all, AllPass}, Map.{keys_of}}
use Rattle.std.proofs.lemmas.List.Sums.{AllPass-from_list_all, list_all-from_AllPass}
use Rattle.toml.specs.{declared.value.Value.{Value}, View.{members_view}}
use Rattle.ptu_config.specs.Forms.{has_only}

-- the names of the keys pass where those of the members do
has_only-keys : (test : List ℕ → Bool) (entries : List (String Global × Value)) →
    list_all (λ key. test (string_bytes key)) (keys_of entries)
    ≡ has_only test (members_view entries)
has_only-keys test [] = refl
has_only-keys test (entry ∷ rest) =
    ap (λ b. test (string_bytes entry.0) && b) (has_only-keys test rest)

same_answer : (a b : Bool) → (a ≡ true → b ≡ true) → (b ≡ true → a ≡ true) → a ≡ b
same_answer true b to from = sym (to refl)
same_answer false true to from = from refl
same_answer false false to from = refl

-- an answer that is true exactly where all keys pass
pub all_pass : (answer : Bool) (test : List ℕ → Bool) (entries : List (String Global × Value)) →
    IsTrue answer ↔ AllPass (λ key. test (string_bytes key)) (keys_of entries) →
    answer ≡ has_only test (members_view entries)
all_pass answer test entries passed =
    same_answer answer (list_all (λ key. test (string_bytes key)) (keys_of entries))
    (λ yes. list_all-from_AllPass _ _ (passed.0 yes))
    (λ all. passed.1 (AllPass-from_list_all _ _ all))
    ∙ has_only-keys test entries
