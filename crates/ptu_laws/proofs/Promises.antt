-- Sound lists whose messages are not before the start of their grants keep the promises, and so does every history of the core.
use Rattle.std.proofs.Common.{◌≡◌, ◌∙◌, ℕ, ◌≤◌, List, [], Some, ℤ, sym, subst}
use Rattle.ptu_units.specs.declared.{client.Client.{Client}, kind.Kind.{Kind}}
use Rattle.ptu_history.specs.{Core.{core_history}, Events.{Event}}
use Rattle.ptu_history.specs.{History.{Record, Granted}, Live.{last_decision}, Verdict.{Config}}
use Rattle.ptu_laws.specs.{Promises.{IsSentAfter, KeepsPromises, PaysItsPeriod}, Sound.{IsSound}}
use Rattle.ptu_laws.proofs.{Bounds.{payment-there}, Budget.{count-sound}, Capacity.{held-sound}}
use Rattle.ptu_laws.proofs.Payments.{message-paid, payments-apart}
use Rattle.ptu_laws.proofs.{Stands.{follow-stand, sent-live, sound-core, stand-from}, Timely.{sent-inside}}

-- no message is before the start of the grant that it is sent under
abbrev pub FollowsItsStart : List Record → Type 0
FollowsItsStart history = (before : List Record) (x : ℕ) (c : Client) (k : Kind) (n : ℕ) (l : ℤ) (u : ℕ) → IsSentAfter history before x c k
    → last_decision before c k ≡ Some (Granted n c k l u) → n ≤ x

module _ (capacity : ℕ) (history : List Record) (sound : IsSound capacity history) (starts : FollowsItsStart history) where
  pays : (before : List Record) (x : ℕ) (c : Client) (k : Kind) → IsSentAfter history before x c k → PaysItsPeriod history before x c k
  pays before x c k s =
      let paid = message-paid history (follow-stand capacity [] history (stand-from capacity history sound)) before s.0 x c k s.1 in
      record {
        live = sent-live capacity history before s.0 x c k sound s.1;
        start = paid.0;
        log = paid.1;
        until = paid.2;
        grant = paid.3;
        inside = (starts before x c k paid.0 paid.1 paid.2 s paid.3, paid.4);
        paid = paid.5;
        own = payment-there history before s.0 x c k s.1;
      }

  pub sound_keeps : KeepsPromises capacity history
  sound_keeps = record {
    within = held-sound capacity history sound;
    paid = pays;
    apart = payments-apart history (follow-stand capacity [] history (stand-from capacity history sound));
    budget = count-sound capacity history sound;
  }

pub core_keeps : (config : Config) (events : List (ℕ × Event)) → KeepsPromises config.capacity (core_history config events)
core_keeps config events = sound_keeps config.capacity (core_history config events) (sound-core config events) starts
  where
    starts : FollowsItsStart (core_history config events)
    starts before x c k n l u s e =
        let inside = sent-inside config events before s.0 x c k s.1 in
        let same : inside.0 ≡ n = (let both : Some (Granted inside.0 c k inside.1 inside.2) ≡ Some (Granted n c k l u) = sym inside.3 ∙ e in cc) in
        subst (λ m. m ≤ x) same inside.4
