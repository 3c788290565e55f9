-- What one more record does to what concerns a client and kind.
use Rattle.std.proofs.Common.{◌≡◌, ◌∙◌, ◌++◌, List, [], ◌∷◌, Bool, true, false, cond, refl, sym, ap, reverse, Some, None}
use Rattle.std.specs.{List.{filter, find}, Option.{option_or}}
use Rattle.std.proofs.lemmas.{List.{reverse-append, append-nil}, List.Elements.{filter-append}}
use Rattle.std.proofs.lemmas.List.Folds.{find-append}
use Rattle.ptu_units.specs.declared.{client.Client.{Client}, kind.Kind.{Kind}}
use Rattle.ptu_history.specs.History.{Record, concerns, decides, is_decision, lease_records}
use Rattle.ptu_history.specs.Live.{last_decision}

pub lease_records-append : (history more : List Record) (c : Client) (k : Kind) → lease_records (history ++ more) c k ≡ lease_records more c k ++ lease_records history c k
unfolding lease_records
lease_records-append history more c k =
    ap reverse (filter-append (concerns c k) history more) ∙ reverse-append (filter (concerns c k) history) (filter (concerns c k) more)

pub lease_records-push : (history : List Record) (r : Record) (c : Client) (k : Kind) → lease_records (history ++ r ∷ []) c k ≡ cond (concerns c k r) (r ∷ lease_records history c k) (lease_records history c k)
unfolding lease_records
lease_records-push history r c k =
    ap reverse (filter-append (concerns c k) history (r ∷ [])) ∙ at (concerns c k r)
  where
    at : (b : Bool) → reverse (filter (concerns c k) history ++ cond b (r ∷ []) []) ≡ cond b (r ∷ reverse (filter (concerns c k) history)) (reverse (filter (concerns c k) history))
    at true = reverse-append (filter (concerns c k) history) (r ∷ [])
    at false = ap reverse (append-nil (filter (concerns c k) history))

-- a record that concerns them
pub lease_records-push_own : (history : List Record) (r : Record) (c : Client) (k : Kind) → concerns c k r ≡ true → lease_records (history ++ r ∷ []) c k ≡ r ∷ lease_records history c k
lease_records-push_own history r c k own = lease_records-push history r c k ∙ ap (λ b. cond b (r ∷ lease_records history c k) (lease_records history c k)) own

-- a record that does not, wherever it stands
pub lease_records-stranger : (history : List Record) (r : Record) (more : List Record) (c : Client) (k : Kind) → concerns c k r ≡ false → lease_records (history ++ r ∷ more) c k ≡ lease_records (history ++ more) c k
unfolding lease_records
lease_records-stranger history r more c k stranger =
    ap reverse (filter-append (concerns c k) history (r ∷ more)
    ∙ ap (λ b. filter (concerns c k) history ++ cond b (r ∷ filter (concerns c k) more) (filter (concerns c k) more)) stranger
    ∙ sym (filter-append (concerns c k) history more))

pub last_decision-append : (history more : List Record) (c : Client) (k : Kind) → last_decision (history ++ more) c k ≡ option_or (last_decision more c k) (last_decision history c k)
unfolding last_decision
last_decision-append history more c k =
    ap (λ rs. find is_decision rs) (lease_records-append history more c k) ∙ find-append is_decision (lease_records more c k) (lease_records history c k)

pub last_decision-one : (r : Record) (c : Client) (k : Kind) → last_decision (r ∷ []) c k ≡ cond (decides c k r) (Some r) None
unfolding last_decision lease_records
last_decision-one r c k = at (concerns c k r) (is_decision r) refl
  where
    at : (b d : Bool) → is_decision r ≡ d → find is_decision (reverse (cond b (r ∷ []) [])) ≡ cond (cond d b false) (Some r) None
    at true true e = ap (λ x. cond x (Some r) None) e
    at true false e = ap (λ x. cond x (Some r) None) e
    at false true e = refl
    at false false e = refl
