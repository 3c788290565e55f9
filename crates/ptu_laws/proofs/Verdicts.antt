-- A verdict grants exactly where there is room.
use Rattle.std.proofs.Common.{◌≡◌, ◌↔◌, ℕ, ◌+◌, ◌*◌, ◌<◌, ◌≤◌, ◌++◌, List, [], ◌∷◌, Bool, true, false, cond, leb, refl, sym, ap, subst, arith, Ok}
use Rattle.std.proofs.lemmas.Bool.{leb-true, leb-false, false≢true}
use Rattle.ptu_units.specs.{declared.kind.Kind.{Kind}, Log.{rate_of}}
use Rattle.ptu_units.specs.declared.client.Client.{Client}
use Rattle.ptu_history.specs.History.{Record, capacity_in_force}
use Rattle.ptu_history.specs.Verdict.{Config, Ask, Verdict, granted_seconds, others, profile, verdict, GrantedFor, ShortOf}
use Rattle.ptu_history.specs.Events.{Event, Request, Outcome, Decided}
use Rattle.ptu_history.specs.Core.{core_moment, core_step, core_history, history_after, core_outcomes, outcomes_after}
use Rattle.ptu_history.proofs.Verdicts.{verdict-within}
use Rattle.ptu_laws.specs.Granted.{is_granted, is_short}

module _ (config : Config) (before : List Record) (x : ℕ) (c : Client) (k : Kind) (ask : Ask) (within : profile ask ≡ Ok k) where
  grant : Verdict
  grant = GrantedFor k ask.log (granted_seconds config ask) (x + granted_seconds config ask * 1000000000)

  shortage : Verdict
  shortage = ShortOf k ask.log (others before x c k) (rate_of ask.log) (capacity_in_force config.capacity before)

  pub granted_where_room : (is_granted (verdict config before x c ask) ≡ true) ↔ (others before x c k + rate_of ask.log ≤ capacity_in_force config.capacity before)
  unfolding grant shortage
  granted_where_room = subst (λ v. (is_granted v ≡ true) ↔ (others before x c k + rate_of ask.log ≤ capacity_in_force config.capacity before)) (sym (verdict-within config before x c k ask within))
      (at (leb (others before x c k + rate_of ask.log) (capacity_in_force config.capacity before)) refl)
    where
      at : (b : Bool) → leb (others before x c k + rate_of ask.log) (capacity_in_force config.capacity before) ≡ b →
          (is_granted (cond b grant shortage) ≡ true) ↔ (others before x c k + rate_of ask.log ≤ capacity_in_force config.capacity before)
      at true e = (λ _. leb-true _ _ e, λ _. refl)
      at false e = (λ h. absurd (false≢true h), λ h. absurd (omega (arith, leb-false (others before x c k + rate_of ask.log) (capacity_in_force config.capacity before) e)))

  pub short_where_no_room : (is_short (verdict config before x c ask) ≡ true) ↔ (capacity_in_force config.capacity before < others before x c k + rate_of ask.log)
  unfolding grant shortage
  short_where_no_room = subst (λ v. (is_short v ≡ true) ↔ (capacity_in_force config.capacity before < others before x c k + rate_of ask.log)) (sym (verdict-within config before x c k ask within))
      (at (leb (others before x c k + rate_of ask.log) (capacity_in_force config.capacity before)) refl)
    where
      at : (b : Bool) → leb (others before x c k + rate_of ask.log) (capacity_in_force config.capacity before) ≡ b →
          (is_short (cond b grant shortage) ≡ true) ↔ (capacity_in_force config.capacity before < others before x c k + rate_of ask.log)
      at true e = (λ h. absurd (false≢true h), λ h. absurd (omega (arith, leb-true (others before x c k + rate_of ask.log) (capacity_in_force config.capacity before) e)))
      at false e = (λ _. leb-false _ _ e, λ _. refl)

-- where the outcome of an event stands among those of all events
outcomes_at : (config : Config) (before : List Record) (events : List (ℕ × Event)) (t : ℕ) (event : Event) (more : List (ℕ × Event)) →
    (later : List (ℕ × Outcome)) × (outcomes_after config before (events ++ (t, event) ∷ more)
    ≡ outcomes_after config before events ++ (core_moment (history_after config before events) t event, (core_step config (history_after config before events) t event).outcome) ∷ later)
unfolding outcomes_after history_after
outcomes_at config before [] t event more = (outcomes_after config (before ++ (core_step config before t event).records) more, refl)
outcomes_at config before (e ∷ events) t event more =
    let rest = outcomes_at config (before ++ (core_step config before e.0 e.1).records) events t event more in
    (rest.0, ap (λ os. (core_moment before e.0 e.1, (core_step config before e.0 e.1).outcome) ∷ os) rest.1)

pub outcome-at : (config : Config) (events : List (ℕ × Event)) (t : ℕ) (c : Client) (ask : Ask) (more : List (ℕ × Event)) →
    (later : List (ℕ × Outcome)) × (core_outcomes config (events ++ (t, Request c ask) ∷ more)
    ≡ core_outcomes config events ++ (core_moment (core_history config events) t (Request c ask), Decided (verdict config (core_history config events) (core_moment (core_history config events) t (Request c ask)) c ask)) ∷ later)
unfolding core_outcomes core_history
outcome-at config events t c ask more = outcomes_at config [] events t (Request c ask) more
