-- A history and its outcomes, event by event.
use Rattle.std.proofs.Common.{◌≡◌, ℕ, ◌++◌, List, [], ◌∷◌, refl, ap}
use Rattle.ptu_history.specs.{History.{Record}, Verdict.{Config}, Events.{Event}}
use Rattle.ptu_history.specs.Core.{core_moment, core_step, core_history, history_after, core_outcomes, outcomes_after}

pub history_after-append : (config : Config) (before : List Record) (events more : List (ℕ × Event)) → history_after config before (events ++ more) ≡ history_after config (history_after config before events) more
unfolding history_after
history_after-append config before [] more = refl
history_after-append config before (e ∷ events) more = history_after-append config (before ++ (core_step config before e.0 e.1).records) events more

pub history-none : (config : Config) → core_history config [] ≡ []
unfolding core_history history_after
history-none config = refl

pub history-event : (config : Config) (events : List (ℕ × Event)) (t : ℕ) (event : Event) → core_history config (events ++ (t, event) ∷ []) ≡ core_history config events ++ (core_step config (core_history config events) t event).records
unfolding core_history history_after
history-event config events t event = history_after-append config [] events ((t, event) ∷ [])

outcomes_after-append : (config : Config) (before : List Record) (events more : List (ℕ × Event)) → outcomes_after config before (events ++ more) ≡ outcomes_after config before events ++ outcomes_after config (history_after config before events) more
unfolding history_after outcomes_after
outcomes_after-append config before [] more = refl
outcomes_after-append config before (e ∷ events) more =
    ap (λ os. (core_moment before e.0 e.1, (core_step config before e.0 e.1).outcome) ∷ os) (outcomes_after-append config (before ++ (core_step config before e.0 e.1).records) events more)

pub outcomes-none : (config : Config) → core_outcomes config [] ≡ []
unfolding core_outcomes outcomes_after
outcomes-none config = refl

pub outcomes-event : (config : Config) (events : List (ℕ × Event)) (t : ℕ) (event : Event) →
    core_outcomes config (events ++ (t, event) ∷ []) ≡ core_outcomes config events ++ (core_moment (core_history config events) t event, (core_step config (core_history config events) t event).outcome) ∷ []
unfolding core_history core_outcomes outcomes_after
outcomes-event config events t event = outcomes_after-append config [] events ((t, event) ∷ [])
