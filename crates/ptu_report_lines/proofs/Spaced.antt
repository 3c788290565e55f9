-- Words, each behind a space, and the room that they want.
use Rattle.std.proofs.Common.{◌≡◌, ◌≤◌, ◌<◌, ℕ, zero, suc, ◌+◌, List, [], ◌∷◌, ◌++◌, length, drop, get_or, ap, sym, add-one, append-nil, arith}
use Rattle.std.proofs.Math.Seq.{drop-cons}
use Rattle.ptu_report_lines.specs.{declared.words.Word.{Word}, Statements.{words_text}}
use Rattle.ptu_report_lines.specs.Words.{most, most_of, spaced_text}

-- the first word, and each other one behind a space
pub words_text_spaced : (word : List ℕ) (words : List (List ℕ)) → words_text (word ∷ words) ≡ word ++ spaced_text words
words_text_spaced word [] = sym (append-nil word)
words_text_spaced word (next ∷ words) = ap (λ t. word ++ 32 ∷ t) (words_text_spaced next words)

-- the words from a place on want no more room than all
most_of_drop : (words : List Word) (n : ℕ) → most_of (drop n words) ≤ most_of words
most_of_drop words zero = omega arith
most_of_drop [] (suc n) = omega arith
most_of_drop (word ∷ words) (suc n) = let rest = most_of_drop words n in omega (arith, rest)

room_at : (words : List Word) (n left : ℕ) (word : Word) → left ≡ n + 1 → n < length words → 1 + most (get_or words n word) + most_of (drop left words) ≤ most_of words
room_at words n left word is lt =
    let split = ap most_of (drop-cons words n word lt) in
    let rest = most_of_drop words n in
    rw (is, add-one n) (omega (arith, split, rest))

-- where those from a place on took their room, there is room for the one before them
pub fits : (words : List Word) (n left : ℕ) (word : Word) (all room : ℕ) → left ≡ n + 1 → n < length words → all ≤ room + most_of (drop left words) → most_of words ≤ all
    → most (get_or words n word) ≤ room
fits words n left word all room is lt took enough =
    let at = room_at words n left word is lt in omega (arith, at, took, enough)

-- and for the space before it
pub space_fits : (words : List Word) (n left : ℕ) (word : Word) (all room rest : ℕ) → left ≡ n + 1 → n < length words → all ≤ room + most_of (drop left words) → most_of words ≤ all
    → room ≤ rest + most (get_or words n word) → 1 ≤ rest
space_fits words n left word all room rest is lt took enough put =
    let at = room_at words n left word is lt in omega (arith, at, took, enough, put)
