-- How often a table takes turns, and how often a client gets messages (the project's own choice).
use Rattle.std.specs.Prelude.{ℕ, ◌+◌, ◌<◌, ◌≤◌, Bool, false, ◌==◌, List, [], ◌∷◌, ◌++◌, map, if◌then◌else◌}
use Rattle.std.specs.List.{Contains, filter}
use Rattle.ptu_units.specs.declared.{client.Client.{Client}, kind.Kind.{Kind}}
use Rattle.ptu_history.specs.History.{Record, moment_of}
use Rattle.ptu_history.specs.{Verdict.{Config}, Events.{Event, Turn}, Core.{core_moment, core_step}}
use Rattle.ptu_laws.specs.Served.{is_sent_to}

-- each stretch of so many nanoseconds, from the one moment on and before the other, has one of these
-- moments
abbrev pub IsInEach : ℕ → List ℕ → ℕ → ℕ → Type 0
IsInEach length moments from to =
    (y : ℕ) → from ≤ y → y + length ≤ to →
    (x : ℕ) × Contains moments x × (y ≤ x) × (x < y + length)

-- the event is a turn of the table
abbrev pub is_turn_of : ℕ → Event → Bool
is_turn_of j (Turn i) = i == j
is_turn_of j _ = false

-- the moments at which the core takes the turns of the table, of these events after the history
unfoldable pub turns_after : Config → List Record → List (ℕ × Event) → ℕ → List ℕ
turns_after config before [] j = []
turns_after config before (e ∷ events) j =
    (if is_turn_of j e.1 then core_moment before e.0 e.1 ∷ [] else [])
    ++ turns_after config (before ++ (core_step config before e.0 e.1).records) events j

-- the moments at which the core takes the turns of the table, of these events from the empty history
unfoldable pub turn_moments : Config → List (ℕ × Event) → ℕ → List ℕ
turn_moments config events j = turns_after config [] events j

-- the moments of the messages of the kind to the client
unfoldable pub sent_moments : List Record → Client → Kind → List ℕ
sent_moments history c k = map moment_of (filter (is_sent_to c k) history)
