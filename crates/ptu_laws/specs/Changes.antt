-- Events that change the capacity (the project's own choice).
use Rattle.std.specs.Prelude.{ℕ, ◌≤◌, Bool, true, false}
use Rattle.ptu_history.specs.Events.{Event, Resize}

-- the event changes the capacity
abbrev pub is_resize : Event → Bool
is_resize (Resize capacity) = true
is_resize _ = false

-- the event does not raise the capacity above this one
abbrev pub IsUpTo : ℕ → Event → Type 0
IsUpTo most (Resize capacity) = capacity ≤ most
IsUpTo most _ = Unit {0}
