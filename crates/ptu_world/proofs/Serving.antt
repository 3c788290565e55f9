-- What each client gets of a grandmaster is within the time that it holds, and comes in time where turns do.
use Rattle.std.proofs.Common.{◌≡◌, ◌≢◌, ◌∙◌, ℕ, ◌+◌, ◌*◌, ◌≤◌, List, Some, ℤ, ap, subst, sym}
use Rattle.ptu_units.specs.declared.kind.{Kind.{Kind}, Kind.TheVariants.{DelayResp}}
use Rattle.ptu_units.specs.{declared.client.Client.{Client}, Client.{table_of}, Log.{period_of}}
use Rattle.ptu_history.specs.Core.{core_history}
use Rattle.ptu_history.specs.{Events.{Event}, History.{Record, Granted}, Live.{last_decision}, Runs.{chain}}
use Rattle.ptu_laws.specs.{Served.{held_time, held_time_at, periods_sent, sent_at}, Sound.{IsSound}}
use Rattle.ptu_laws.specs.Turned.{IsInEach, sent_moments, turn_moments}
use Rattle.ptu_laws.proofs.{Served.{periods-sound, rate-sound}, Stands.{sound-core}, Turned.{met-in-each}}
use Rattle.ptu_world.specs.{Deeds.{Grandmaster}, Grandmasters.{opening}, Promises.{IsRun}}

module _ (ip : ℕ) (g : Grandmaster) (run : IsRun ip g) where
  run_sound : IsSound (opening g).capacity g.past
  run_sound = subst (λ (h : List Record). IsSound (opening g).capacity h) (sym run.past) (sound-core (opening g) run.events)

  pub run_periods : (c : Client) (k : Kind) (x : ℕ) → periods_sent g.past c k x ≤ held_time g.past c k x
  run_periods c k x = periods-sound (opening g).capacity g.past run_sound c k x

  pub run_rate : (c : Client) (k : Kind) (l : ℤ) (x : ℕ) → sent_at g.past c k l x * period_of l ≤ held_time_at g.past c k l x
  run_rate c k l x = rate-sound (opening g).capacity g.past run_sound c k l x

-- what any events that make the history say of it
pub sent_in_each : (g : Grandmaster) (events : List (ℕ × Event)) → g.past ≡ core_history (opening g) events → (c : Client) (k : Kind) (n : ℕ) (l : ℤ) (u between from to : ℕ) → k ≢ DelayResp →
    last_decision g.past c k ≡ Some (Granted n c k l u) → chain g.past c k ≤ from → to ≤ u → IsInEach between (turn_moments (opening g) events (table_of c)) from to →
    IsInEach (period_of l + between) (sent_moments g.past c k) from to
sent_in_each g events past c k n l u between from to kind last begun within turns =
    subst (λ h. IsInEach (period_of l + between) (sent_moments h c k) from to) (sym past)
    (met-in-each (opening g) events c k n l u between from to kind (sym (ap (λ h. last_decision h c k) past) ∙ last) (subst (λ h. chain h c k ≤ from) past begun) within turns)
