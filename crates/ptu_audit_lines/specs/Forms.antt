-- Forms of lines, written as lines: a word in upper case tells what stands in its place, and any other word is itself.
use Rattle.std.specs.Prelude.{ℕ, Bool, true, false, ◌&&◌, if◌then◌else◌, List, [], ◌∷◌, Option, Some, None, codes}
use Rattle.std.specs.{Option.{is_some}, List.{list_any}, Str.{bytes_eq}}
use Rattle.ptu_lines.specs.Words.{words_of, ip_of}
use Rattle.ptu_audit_lines.specs.Words.{any_number, kind_named, is_channel, octet_log}

-- the word may stand in this place of a form
unfoldable pub is_in_place : List ℕ → List ℕ → Bool
is_in_place place word =
    if bytes_eq place (codes "NUM") then is_some (any_number word)
    else if bytes_eq place (codes "KIND") then is_some (kind_named word)
    else if bytes_eq place (codes "LOG") then is_some (octet_log word)
    else if bytes_eq place (codes "IP") then is_some (ip_of word)
    else if bytes_eq place (codes "CHANNEL") then is_channel word
    else if bytes_eq place (codes "WORD") then true
    else bytes_eq word place

-- there is a word that may
abbrev pub is_some_in_place : List ℕ → Option (List ℕ) → Bool
is_some_in_place place (Some word) = is_in_place place word
is_some_in_place place None = false

-- there are as many words as places, and each is in its place
abbrev pub fit : List (List ℕ) → List (List ℕ) → Bool
fit [] [] = true
fit (place ∷ places) (word ∷ words) = is_in_place place word && fit places words
fit _ _ = false

-- the line has this form
unfoldable pub fits : List ℕ → List ℕ → Bool
fits form line = fit (words_of form) (words_of line)

-- that it has
unfoldable pub fitting : List ℕ → List ℕ → Option (Unit {0})
fitting form line = if fits form line then Some tt else None

-- it has one of these forms
abbrev pub fits_one : List (List ℕ) → List ℕ → Bool
fits_one forms line = list_any (λ form. fits form line) forms
