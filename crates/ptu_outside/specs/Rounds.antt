-- How what waits at the ports of a daemon, and the moments of its clock, become rounds (the project's own choice).
use Rattle.std.specs.Prelude.{ℕ, suc, zero, ◌*◌, List, [], ◌∷◌, ◌++◌, take, drop}
use Rattle.ptu_outside.specs.{declared.arrival.Arrival.{Arrival}, Clocks.{after_first}}

-- how many datagrams a round takes of a channel at most
abbrev pub most : ℕ
most = 64

-- of a channel, those that a round takes before which there were so many rounds: each takes the next ones that wait
abbrev pub taken_in : ℕ → List Arrival → List Arrival
taken_in before waiting = take most (drop (most * before) waiting)

-- what is left of a channel after so many rounds
abbrev pub left_after : ℕ → List Arrival → List Arrival
left_after rounds waiting = drop (most * rounds) waiting

-- those that such a round takes of both channels, in order: the general channel is taken first
abbrev pub received_in : ℕ → List Arrival → List Arrival → List Arrival
received_in before general event = taken_in before general ++ taken_in before event

-- what happens in so many rounds, in order, where `round` says what happens in each, by the number of rounds before it
unfoldable pub in_rounds : {A : Type 0} → (ℕ → List A) → ℕ → List A
in_rounds round zero = []
in_rounds round (suc before) = in_rounds round before ++ round before

-- the next of the moments to come
abbrev pub next_of : List ℕ → ℕ
next_of [] = 0
next_of (moment ∷ later) = moment

-- the moments to come after so many
unfoldable pub moments_after : ℕ → List ℕ → List ℕ
moments_after zero moments = moments
moments_after (suc count) moments = moments_after count (after_first moments)

-- things that happen one after the other, each at a new moment: they take the moments in order, the last of which comes again
-- and again
unfoldable pub timed : {A : Type 0} → List ℕ → List (ℕ → A) → List A
timed moments [] = []
timed moments (happens ∷ later) = happens (next_of moments) ∷ timed (after_first moments) later
