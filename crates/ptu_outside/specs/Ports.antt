-- The six ports of a daemon, at their opening and when they are given back.
use Rattle.std.specs.Prelude.{◌≡◌, ℕ, ◌+◌, List, [], ◌∷◌, length, Option, option_map}
use Rattle.ptu_outside.specs.{declared.opened.Opened.{Opened}, Departure.{Departure}}
use Rattle.ptu_outside.specs.{Faults.{HasRisen, HasRisenBy, HasRisenJust}, Telling.{IfTold}}

-- the ports that send in a grandmaster's daemon
abbrev pub senders_of : {P C : Type 0} → Opened P C → List P
senders_of opened = opened.p0 ∷ opened.p1 ∷ opened.p2 ∷ opened.p3 ∷ opened.p4 ∷ []

-- all six
abbrev pub ports_of : {P C : Type 0} → Opened P C → List P
ports_of opened = opened.p0 ∷ opened.p1 ∷ opened.p2 ∷ opened.p3 ∷ opened.p4 ∷ opened.p5 ∷ []

-- these counts of faults rose by so many together: the number is a sum of one for each count, by which that count has risen
abbrev pub HaveRisenBy : ℕ → List ℕ → List ℕ → Type 0
HaveRisenBy n [] [] = n ≡ 0
HaveRisenBy n (old ∷ olds) (new ∷ news) =
    (first : ℕ) × (others : ℕ) × (n ≡ first + others) × HasRisenBy first old new × HaveRisenBy others olds news
HaveRisenBy n _ _ = ⊥

-- these counts of faults rose by just so many together: the number is a sum of one for each count, by which that count has
-- risen, unless it stands at its end
abbrev pub HaveRisenJust : ℕ → List ℕ → List ℕ → Type 0
HaveRisenJust n [] [] = n ≡ 0
HaveRisenJust n (old ∷ olds) (new ∷ news) =
    (first : ℕ) × (others : ℕ) × (n ≡ first + others) × HasRisenJust first old new × HaveRisenJust others olds news
HaveRisenJust n _ _ = ⊥

-- none of these counts has risen
abbrev pub HaveNotRisen : List ℕ → List ℕ → Type 0
HaveNotRisen [] [] = Unit {0}
HaveNotRisen (old ∷ olds) (new ∷ news) = (¬ HasRisen old new) × HaveNotRisen olds news
HaveNotRisen _ _ = ⊥

-- these ports were sent so many datagrams more together: the number is a sum of one for each port, by which what it was sent
-- grew where it is still told
abbrev pub WereSent : ℕ → List (Option (List Departure)) → List (Option (List Departure)) → Type 0
WereSent n [] [] = n ≡ 0
WereSent n (old ∷ olds) (new ∷ news) =
    (first : ℕ) × (others : ℕ) × (n ≡ first + others)
    × IfTold (option_map length new) (option_map (λ sent. length sent + first) old) × WereSent others olds news
WereSent n _ _ = ⊥
