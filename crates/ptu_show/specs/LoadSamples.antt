-- What the script of a load is, at numbers that were made out by hand.
use Rattle.std.specs.Prelude.{◌≡◌, ℕ, ◌+◌, ◌/◌, [], ◌∷◌, codes, drop, length, map, pos, negsuc}
use Rattle.std.specs.{Prelude.{take}, List.{range_with_len}}
use Rattle.ptu_show.specs.Generated.{client_text, generated_lines, log_of_client, request_of, x_at}

-- the quotients of x_1 to x_5 by 65536
abbrev pub QuotientsAre : Type 0
QuotientsAre =
    map (λ i. x_at i / 65536) (1 ∷ 2 ∷ 3 ∷ 4 ∷ 5 ∷ []) ≡ 16838 ∷ 5758 ∷ 10113 ∷ 17515 ∷ 31051 ∷ []

-- the logarithms at which five clients ask
abbrev pub LogarithmsAre : Type 0
LogarithmsAre =
    map log_of_client (range_with_len 0 5) ≡ pos 1 ∷ pos 1 ∷ pos 1 ∷ negsuc 1 ∷ negsuc 0 ∷ []

-- the first lines and the last one, for one client; and the line of a client whose address has
-- another third octet
abbrev pub LinesAre : Type 0
LinesAre =
    (take 4 (generated_lines 1)
    ≡ codes "gm 10.0.0.1 0a00000000000001 1 4 84 16 300\n"
    ∷ codes "rx 0 10.0.0.1 10.1.0.0 0c120036040004000000000000000000000000000b0000000000000000010000057fffffffffffffffffffff0004000600010000012c\n"
    ∷ codes "turn 1000000000 10.0.0.1 0\n"
    ∷ codes "turn 1000000000 10.0.0.1 1\n"
    ∷ [])
    × (drop 33 (generated_lines 1) ≡ codes "turn 8000000000 10.0.0.1 3\n" ∷ [])
    × (client_text 1999 (request_of 1999 (negsuc 1))
    ≡ codes "rx 0 10.0.0.1 10.1.7.207 0c120036040004000000000000000000000000000b000000000007cf00010000057fffffffffffffffffffff0004000600fe0000012c\n")

-- for n clients there are n + 33 lines
abbrev pub LinesAreCounted : Type 0
LinesAreCounted = (n : ℕ) → length (generated_lines n) ≡ n + 33
