-- The last decision on a client and kind.
use Rattle.std.proofs.Common.{◌≡◌, ◌∙◌, ℕ, ◌++◌, List, [], ◌∷◌, true, false, cond, refl, ap, Some, None, ℤ, ltb}
use Rattle.std.specs.{List.{list_any}, Option.{option_or}}
use Rattle.std.proofs.lemmas.Bool.{or_parts}
use Rattle.ptu_units.specs.declared.{client.Client.{Client}, kind.Kind.{Kind}}
use Rattle.ptu_history.specs.History.{Record, Granted, Ended, Shed, decides, concerns, lease_records}
use Rattle.ptu_history.specs.Live.{is_live, last_decision, live}
use Rattle.ptu_history.specs.Runs.{root, chain, sequence_number, sent_in_chain}
use Rattle.ptu_history.specs.Lawful.{earliest, last_period, lawful}
use Rattle.ptu_units.proofs.Keys.{same_lease-refl}
use Rattle.ptu_history.proofs.LeaseRecords.{last_decision-append, last_decision-one, lease_records-stranger}

nothing_decided : (c : Client) (k : Kind) → last_decision [] c k ≡ None
unfolding last_decision lease_records
nothing_decided c k = refl

pub last_decision-none : (history : List Record) (c : Client) (k : Kind) → list_any (decides c k) history ≡ false → last_decision history c k ≡ None
last_decision-none [] c k none = nothing_decided c k
last_decision-none (r ∷ history) c k none =
    let parts : (decides c k r ≡ false) × (list_any (decides c k) history ≡ false) = or_parts (decides c k r) (list_any (decides c k) history) none in
    last_decision-append (r ∷ []) history c k
    ∙ ap (λ d. option_or d (last_decision (r ∷ []) c k)) (last_decision-none history c k parts.1)
    ∙ last_decision-one r c k
    ∙ ap (λ b. cond b (Some r) None) parts.0

pub last_decision-decided : (before : List Record) (r : Record) (after : List Record) (c : Client) (k : Kind) → decides c k r ≡ true → list_any (decides c k) after ≡ false → last_decision (before ++ r ∷ after) c k ≡ Some r
last_decision-decided before r after c k own none =
    last_decision-append before (r ∷ after) c k
    ∙ ap (λ d. option_or d (last_decision before c k)) (
    last_decision-append (r ∷ []) after c k
    ∙ ap (λ d. option_or d (last_decision (r ∷ []) c k)) (last_decision-none after c k none)
    ∙ last_decision-one r c k
    ∙ ap (λ b. cond b (Some r) None) own)

pub live-decided : (before : List Record) (r : Record) (after : List Record) (x : ℕ) (c : Client) (k : Kind) → decides c k r ≡ true → list_any (decides c k) after ≡ false → live (before ++ r ∷ after) x c k ≡ is_live x (Some r)
unfolding live
live-decided before r after x c k own none = ap (λ d. is_live x d) (last_decision-decided before r after c k own none)

pub live-granted : (before after : List Record) (n : ℕ) (c : Client) (k : Kind) (l : ℤ) (u x : ℕ) → list_any (decides c k) after ≡ false → live (before ++ Granted n c k l u ∷ after) x c k ≡ ltb x u
live-granted before after n c k l u x none = live-decided before (Granted n c k l u) after x c k (same_lease-refl c k) none

pub live-ended : (before after : List Record) (n : ℕ) (c : Client) (k : Kind) (x : ℕ) → list_any (decides c k) after ≡ false → live (before ++ Ended n c k ∷ after) x c k ≡ false
live-ended before after n c k x none = live-decided before (Ended n c k) after x c k (same_lease-refl c k) none

pub live-shed : (before after : List Record) (n : ℕ) (c : Client) (k : Kind) (x : ℕ) → list_any (decides c k) after ≡ false → live (before ++ Shed n c k ∷ after) x c k ≡ false
live-shed before after n c k x none = live-decided before (Shed n c k) after x c k (same_lease-refl c k) none

pub live-undecided : (history : List Record) (c : Client) (k : Kind) (x : ℕ) → list_any (decides c k) history ≡ false → live history x c k ≡ false
unfolding live
live-undecided history c k x none = ap (λ d. is_live x d) (last_decision-none history c k none)

-- a record that does not concern the client and kind, wherever it stands
pub live-stranger : (before : List Record) (r : Record) (after : List Record) (x : ℕ) (c : Client) (k : Kind) → concerns c k r ≡ false → live (before ++ r ∷ after) x c k ≡ live (before ++ after) x c k
unfolding live last_decision
live-stranger before r after x c k stranger = rw (lease_records-stranger before r after c k stranger)

pub chain-stranger : (before : List Record) (r : Record) (after : List Record) (c : Client) (k : Kind) → concerns c k r ≡ false → chain (before ++ r ∷ after) c k ≡ chain (before ++ after) c k
unfolding chain
chain-stranger before r after c k stranger = rw (lease_records-stranger before r after c k stranger)

pub earliest-stranger : (before : List Record) (r : Record) (after : List Record) (c : Client) (k : Kind) → concerns c k r ≡ false → earliest (before ++ r ∷ after) c k ≡ earliest (before ++ after) c k
unfolding earliest last_period chain sent_in_chain
earliest-stranger before r after c k stranger = rw (lease_records-stranger before r after c k stranger)

pub sequence_number-stranger : (before : List Record) (r : Record) (after : List Record) (c : Client) (k : Kind) → concerns c k r ≡ false → sequence_number (before ++ r ∷ after) c k ≡ sequence_number (before ++ after) c k
unfolding sequence_number
sequence_number-stranger before r after c k stranger = rw (lease_records-stranger before r after c k stranger)

pub lawful-stranger : (before : List Record) (r : Record) (after : List Record) (x : ℕ) (c : Client) (k : Kind) → concerns c k r ≡ false → lawful (before ++ r ∷ after) x c k ≡ lawful (before ++ after) x c k
unfolding lawful
lawful-stranger before r after x c k stranger = rw (live-stranger before r after x c k stranger, earliest-stranger before r after c k stranger)

pub root-stranger : (before : List Record) (r : Record) (after : List Record) (c : Client) (k : Kind) → concerns c k r ≡ false → root (before ++ r ∷ after) c k ≡ root (before ++ after) c k
unfolding root
root-stranger before r after c k stranger = rw (lease_records-stranger before r after c k stranger)
