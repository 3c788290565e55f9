-- Small scripts of pools, and the outputs that were made out for them by hand.
use Rattle.std.specs.Prelude.{ℕ, List, [], ◌∷◌, ◌++◌, codes}
use Rattle.ptu_script.specs.declared.command.GrandmasterSetup.{GrandmasterSetup}
use Rattle.ptu_world.specs.Samples.{ask_digits, gm_line, grant_digits, lines_of, script_of}

-- the grandmaster 10.0.0.1 of 16 sixteenths, of which two customers are sold 8 each
abbrev pub customers : List (List ℕ)
customers = gm_line (codes "16 300") ∷ codes "pool 10.0.1.0 24 8" ∷ codes "pool 10.0.2.0 24 8" ∷ []

-- what sets that grandmaster up
abbrev pub setup_of_customers : GrandmasterSetup
setup_of_customers = record {
  ip = 0x0A000001;
  clock = 0x0A00000000000001;
  port = 1;
  domain = 4;
  class = 84;
  capacity = 16;
  max_duration = 300;
}

-- the address hands something in at the moment 0
abbrev pub hands_in : List ℕ → List ℕ → List ℕ
hands_in from hex = codes "rx 0 " ++ (from ++ (codes " " ++ hex))

-- what a pool sends on the general channel
abbrev pub pool_sends : List ℕ → List ℕ → List ℕ → List ℕ
pool_sends pool to hex = pool ++ (codes " send general " ++ (to ++ (codes " " ++ hex)))

-- ---- requests: two fill their own pools, one does not fit in the first, and one comes from nobody's address

-- of another client, an ask for Announces at the logarithm 4 for 300 s, and its denial
abbrev pub ask_of_other : List ℕ
ask_of_other = codes "0c120036040004000000000000000000000000000a0000000000001200010000057fffffffffffffffffffff00040006b0040000012c"

abbrev pub denial_of_other : List ℕ
denial_of_other = codes "0c120038040004000000000000000000000000000a0000000000000100010000057f0a00000000000012000100050008b004000000000000"

abbrev pub requests : List ℕ
requests = script_of (customers
    ++ (hands_in (codes "10.0.1.17") ask_digits ∷ hands_in (codes "10.0.1.18") ask_of_other ∷ hands_in (codes "10.0.2.1") ask_digits ∷ hands_in (codes "10.0.3.1") ask_digits ∷ []))

abbrev pub requests_output : List (List ℕ)
requests_output = lines_of (
    pool_sends (codes "4 pool 1") (codes "10.0.1.17") grant_digits
    ∷ pool_sends (codes "5 pool 1") (codes "10.0.1.18") denial_of_other
    ∷ pool_sends (codes "6 pool 2") (codes "10.0.2.1") grant_digits
    ∷ codes "7 stranger"
    ∷ codes "end 7" ∷ [])

-- ---- turns: at 2 s the one client of each pool is due an Announce, once, and from its own pool alone

-- the first Announce, at 2 s
abbrev pub first_announce : List ℕ
first_announce = codes "0b120040040004000000000000000000000000000a0000000000000100010000057f000000000002000000000000008054feffff800a000000000000010000a0"

abbrev pub taking_turns : List ℕ
taking_turns = script_of (customers
    ++ (hands_in (codes "10.0.1.17") ask_digits ∷ hands_in (codes "10.0.2.1") ask_digits
    ∷ codes "turn 1999999999 1 2" ∷ codes "turn 2000000000 2 2" ∷ codes "turn 2000000000 2 2" ∷ codes "turn 2000000000 1 2" ∷ []))

abbrev pub taking_turns_output : List (List ℕ)
taking_turns_output = lines_of (
    pool_sends (codes "4 pool 1") (codes "10.0.1.17") grant_digits
    ∷ pool_sends (codes "5 pool 2") (codes "10.0.2.1") grant_digits
    ∷ pool_sends (codes "7 pool 2") (codes "10.0.2.1") first_announce
    ∷ pool_sends (codes "9 pool 1") (codes "10.0.1.17") first_announce
    ∷ codes "end 9" ∷ [])

-- ---- pools that are refused

abbrev pub too_much : List ℕ
too_much = script_of (gm_line (codes "16 300") ∷ codes "pool 10.0.1.0 24 9" ∷ codes "pool 10.0.2.0 24 8" ∷ [])

abbrev pub no_network : List ℕ
no_network = script_of (gm_line (codes "16 300") ∷ codes "pool 10.0.1.1 24 8" ∷ [])

abbrev pub overlapping : List ℕ
overlapping = script_of (gm_line (codes "16 300") ∷ codes "pool 10.0.1.0 24 8" ∷ codes "pool 10.0.0.0 16 8" ∷ [])
