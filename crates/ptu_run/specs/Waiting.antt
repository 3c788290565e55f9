-- Whether somebody waits for the lines of an output.
use Rattle.std.specs.Prelude.{ℕ, Bool, false, ◌||◌, List, [], ◌∷◌, codes}
use Rattle.std.specs.{List.{list_any}, Str.{bytes_eq}}

-- the first word is that of a daemon
abbrev pub begins_with_daemon : List (List ℕ) → Bool
begins_with_daemon [] = false
begins_with_daemon (word ∷ rest) = list_any (bytes_eq word) (codes "serve" ∷ codes "slave" ∷ [])

-- the lines that the words ask for are waited for, one by one: at a terminal, or from a daemon
abbrev pub is_waited_for : Bool → List (List ℕ) → Bool
is_waited_for is_terminal words = is_terminal || begins_with_daemon words
