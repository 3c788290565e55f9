-- What each line of a load commands.
use Rattle.std.proofs.Common.{◌≡◌, ◌∙◌, ℕ, ◌+◌, ◌*◌, ◌-◌, ◌^◌, ◌<◌, ◌≤◌, ◌==◌, true, false, List, [], ◌∷◌, ◌++◌, length, codes, Some, Ok, refl, ap, decimal, arith}
use Rattle.std.specs.{Prelude.{slice_get, unwrap_or}, List.{list_any}}
use Rattle.hex.specs.Hex.{IsBytes, encode_lower}
use Rattle.ptu_lines.specs.Words.{ip_of, octets_of, words_of}
use Rattle.ptu_script.specs.declared.command.GrandmasterSetup.{GrandmasterSetup}
use Rattle.ptu_script.specs.declared.act.Act.TheVariants as acts
use Rattle.ptu_script.specs.declared.command.Command.TheVariants as commands
use Rattle.ptu_script.specs.declared.verb.{Verb.{Verb}, Verb.TheVariants.{Gm, Rx, Turn}}
use Rattle.ptu_script.specs.Command.{command_of, fields_in, grandmaster_in, is_comment, moment_of}
use Rattle.ptu_script.specs.{Cause.{named}, Fields.{◌>>=◌, from_to}, Verb.{counts_of, name_of, verb_among, verbs}}
use Rattle.ptu_show.proofs.Going.{address}
use Rattle.ptu_lines.proofs.Read.{decimal_glyphs, decimal_within, octets_glyphs, octets_read}
use Rattle.ptu_show.proofs.Words.{address_read, client_words, grandmaster_words, turn_words}

-- a line with these words begins with a verb, and has as many words as the verb asks for
of_verb : (line : List ℕ) (words : List (List ℕ)) (verb : Verb) → is_comment line ≡ false → words_of line ≡ words → verb_among verbs name_of (unwrap_or (slice_get words 0) []) ≡ Some verb
    → list_any (λ count. count == length words) (counts_of verb) ≡ true → command_of line ≡ (named (fields_in verb line) >>= λ command. Ok (Some command))
unfolding command_of
of_verb line words verb c e v n = rw (c, e, v, e, n) refl

-- ---- the grandmaster

abbrev pub setup_of : ℕ → GrandmasterSetup
setup_of capacity = record { ip = address; clock = 0x0a00000000000001; port = 1; domain = 4; class = 84; capacity = capacity; max_duration = 300 }

abbrev pub grandmaster_line : ℕ → List ℕ
grandmaster_line capacity = codes "gm 10.0.0.1 0a00000000000001 1 4 84 " ++ (decimal capacity ++ codes " 300")

grandmaster_fields : (line d : List ℕ) (capacity : ℕ)
    → words_of line ≡ codes "gm" ∷ codes "10.0.0.1" ∷ codes "0a00000000000001" ∷ codes "1" ∷ codes "4" ∷ codes "84" ∷ d ∷ codes "300" ∷ []
    → from_to 1 16777216 d ≡ Some capacity → fields_in Gm line ≡ Ok (commands.Grandmaster (setup_of capacity))
unfolding fields_in grandmaster_in
grandmaster_fields line d capacity e p = rw (e, p) refl

pub grandmaster_says : (capacity : ℕ) → 1 ≤ capacity → capacity ≤ 16777216 → command_of (grandmaster_line capacity) ≡ Ok (Some (commands.Grandmaster (setup_of capacity)))
grandmaster_says capacity low high =
    let words = grandmaster_words (decimal capacity) (decimal_glyphs capacity (omega (arith, high))) in
    let read : from_to 1 16777216 (decimal capacity) ≡ Some capacity = decimal_within capacity 1 16777216 low high (omega (arith, high)) in
    of_verb (grandmaster_line capacity) _ Gm refl words refl refl
    ∙ ap (λ r. named r >>= λ command. Ok (Some command)) (grandmaster_fields (grandmaster_line capacity) (decimal capacity) capacity words read)

-- ---- a turn

abbrev pub turn_line : ℕ → ℕ → List ℕ
turn_line moment table = codes "turn " ++ (decimal moment ++ (codes " 10.0.0.1 " ++ decimal table))

turn_fields : (line m t : List ℕ) (moment table : ℕ) → words_of line ≡ codes "turn" ∷ m ∷ codes "10.0.0.1" ∷ t ∷ [] → moment_of m ≡ Some moment → from_to 0 3 t ≡ Some table
    → fields_in Turn line ≡ Ok (commands.Event moment address (acts.Turn table))
unfolding fields_in
turn_fields line m t moment table e p q = rw (e, p, q) refl

pub turn_says : (moment table : ℕ) → moment < 2 ^ 62 → table ≤ 3 → command_of (turn_line moment table) ≡ Ok (Some (commands.Event moment address (acts.Turn table)))
turn_says moment table below few =
    let words = turn_words (decimal moment) (decimal table) (decimal_glyphs moment (omega (arith, below))) (decimal_glyphs table (omega (arith, few))) in
    let first : moment_of (decimal moment) ≡ Some moment = decimal_within moment 0 (2 ^ 62 - 1) (omega arith) (omega (arith, below)) (omega (arith, below)) in
    let second : from_to 0 3 (decimal table) ≡ Some table = decimal_within table 0 3 (omega arith) few (omega (arith, few)) in
    of_verb (turn_line moment table) _ Turn refl words refl refl
    ∙ ap (λ r. named r >>= λ command. Ok (Some command)) (turn_fields (turn_line moment table) (decimal moment) (decimal table) moment table words first second)

-- ---- a request

abbrev pub client_line : ℕ → ℕ → List ℕ → List ℕ
client_line a b octets = codes "rx 0 10.0.0.1 10.1." ++ (decimal a ++ (codes "." ++ (decimal b ++ (codes " " ++ encode_lower octets))))

-- the address 10.1.a.b
abbrev pub client_address : ℕ → ℕ → ℕ
client_address a b = ((10 * 256 + 1) * 256 + a) * 256 + b

client_fields : (line ip o : List ℕ) (from : ℕ) (octets : List ℕ) → words_of line ≡ codes "rx" ∷ codes "0" ∷ codes "10.0.0.1" ∷ ip ∷ o ∷ [] → ip_of ip ≡ Some from
    → octets_of o ≡ Some octets → fields_in Rx line ≡ Ok (commands.Event 0 address (acts.Receive from octets))
unfolding fields_in
client_fields line ip o from octets e p q = rw (e, p, q) refl

pub client_says : (a b : ℕ) (octets : List ℕ) → a ≤ 255 → b ≤ 255 → IsBytes octets → 1 ≤ length octets → length octets ≤ 2048
    → command_of (client_line a b octets) ≡ Ok (Some (commands.Event 0 address (acts.Receive (client_address a b) octets)))
client_says a b octets h k bytes some few =
    let words = client_words (decimal a) (decimal b) (encode_lower octets) (decimal_glyphs a (omega (arith, h))) (decimal_glyphs b (omega (arith, k))) (octets_glyphs octets bytes) in
    of_verb (client_line a b octets) _ Rx refl words refl refl
    ∙ ap (λ r. named r >>= λ command. Ok (Some command)) (client_fields (client_line a b octets) _ (encode_lower octets) (client_address a b) octets words (address_read a b h k)
    (octets_read octets bytes some few))
