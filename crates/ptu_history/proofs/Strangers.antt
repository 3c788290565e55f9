-- A record at the end, and the clients and kinds that it does not concern.
use Rattle.std.proofs.Common.{◌≡◌, ◌≢◌, ◌∙◌, ◌↔◌, ℕ, ◌++◌, List, [], ◌∷◌, true, false, cond, ap, subst, Some}
use Rattle.std.proofs.lemmas.Bool.{false_from_ne_true}
use Rattle.ptu_units.specs.declared.kind.Kind.{Kind}
use Rattle.ptu_units.specs.{declared.client.Client.{Client}, Client.{same_lease}}
use Rattle.ptu_history.specs.History.{Record, concerns, decides, lease_records}
use Rattle.ptu_history.specs.Live.{is_live, last_decision, live}
use Rattle.ptu_history.specs.Runs.{chain, sent_in_chain, sequence_number}
use Rattle.ptu_history.specs.Lawful.{earliest, last_period, lawful}
use Rattle.ptu_units.proofs.Keys.{same_lease-refl, same_lease-true}
use Rattle.ptu_history.proofs.{LeaseRecords.{lease_records-push}, Standing.{last_pushed}}

pub live-undecided_push : (history : List Record) (r : Record) (x : ℕ) (c : Client) (k : Kind) → decides c k r ≡ false → live (history ++ r ∷ []) x c k ≡ live history x c k
unfolding live
live-undecided_push history r x c k other = ap (λ d. is_live x d) (last_pushed history r c k ∙ ap (λ b. cond b (Some r) (last_decision history c k)) other)

module _ (history : List Record) (r : Record) (c : Client) (k : Kind) (other : concerns c k r ≡ false) where
  lease_records_same : lease_records (history ++ r ∷ []) c k ≡ lease_records history c k
  lease_records_same = lease_records-push history r c k ∙ ap (λ b. cond b (r ∷ lease_records history c k) (lease_records history c k)) other

  pub last_period-push : last_period (history ++ r ∷ []) c k ≡ last_period history c k
  unfolding last_period
  last_period-push = rw lease_records_same

  pub chain-push : chain (history ++ r ∷ []) c k ≡ chain history c k
  unfolding chain
  chain-push = rw lease_records_same

  pub earliest-push : earliest (history ++ r ∷ []) c k ≡ earliest history c k
  unfolding earliest last_period chain sent_in_chain
  earliest-push = rw lease_records_same

  pub sequence_number-push : sequence_number (history ++ r ∷ []) c k ≡ sequence_number history c k
  unfolding sequence_number
  sequence_number-push = rw lease_records_same

  pub lawful-push : (x : ℕ) → lawful (history ++ r ∷ []) x c k ≡ lawful history x c k
  unfolding lawful live last_decision earliest last_period chain sent_in_chain
  lawful-push x = rw lease_records_same

pub same_lease-other_client : (c d : Client) (k j : Kind) → c ≢ d → same_lease c k d j ≡ false
same_lease-other_client c d k j differ = false_from_ne_true (same_lease c k d j) (λ e. differ (same_lease-true c k d j e).0)

pub same_lease-other_kind : (c d : Client) (k j : Kind) → k ≢ j → same_lease c k d j ≡ false
same_lease-other_kind c d k j differ = false_from_ne_true (same_lease c k d j) (λ e. differ (same_lease-true c k d j e).1)

pub same_lease-own : (c d : Client) (k j : Kind) → (same_lease c k d j ≡ true) ↔ ((c ≡ d) × (k ≡ j))
same_lease-own c d k j = (
  λ e. same_lease-true c k d j e,
  λ is. subst (λ e. same_lease c k e j ≡ true) is.0 (subst (λ i. same_lease c k c i ≡ true) is.1 (same_lease-refl c k)),
)
