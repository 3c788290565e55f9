-- The counts of a history after more records, and the payments of its messages.
use Rattle.std.proofs.Common.{◌≡◌, ◌∙◌, ℕ, ◌+◌, ◌++◌, List, [], ◌∷◌, map, length, Bool, true, false, cond, refl, ap, arith, ℤ}
use Rattle.std.specs.List.{count_by}
use Rattle.std.proofs.lemmas.{List.{append-nil}, List.Sums.{sum_by-append, sum_by-cons}}
use Rattle.ptu_units.specs.declared.kind.{Kind.{Kind}, Kind.TheVariants.{DelayResp}}
use Rattle.ptu_units.specs.{declared.client.Client.{Client}, Client.{table_of}}
use Rattle.ptu_history.specs.History.{Record, Granted, Short, Ended, Capacity, Looked, Sent, is_sent}
use Rattle.ptu_history.specs.{Live.{Grant}, Lawful.{lawful}, Turns.{sent_record}}
use Rattle.ptu_history.specs.{Shedding.{shed_record}, Step.{answer_records, delay_answer}}
use Rattle.ptu_history.specs.Counts.{Counts, counts, is_grant, is_shedding, is_shortage}
use Rattle.ptu_history.proofs.AfterSteps.{answer_records-is}

counts_of : (granted short shed sent granted' short' shed' sent' : ℕ) → granted ≡ granted' → short ≡ short' → shed ≡ shed' → sent ≡ sent' →
    ◌≡◌ {A = Counts} (record { granted = granted; short = short; shed = shed; sent = sent }) (record { granted = granted'; short = short'; shed = shed'; sent = sent' })
counts_of granted short shed sent granted' short' shed' sent' a b c d = λ i. record { granted = a i; short = b i; shed = c i; sent = d i }

-- the counts add up
plus : Counts → Counts → Counts
plus a b = record { granted = a.granted + b.granted; short = a.short + b.short; shed = a.shed + b.shed; sent = a.sent + b.sent }

counts-append : (history more : List Record) → counts (history ++ more) ≡ plus (counts history) (counts more)
unfolding counts plus
counts-append history more =
    counts_of _ _ _ _ _ _ _ _
    (sum_by-append (λ r. cond (is_grant r) 1 0) history more)
    (sum_by-append (λ r. cond (is_shortage r) 1 0) history more)
    (sum_by-append (λ r. cond (is_shedding r) 1 0) history more)
    (sum_by-append (λ r. cond (is_sent r) 1 0) history more)

all_of : (p : Record → Bool) (to : Grant → Record) → ((g : Grant) → p (to g) ≡ true) → (gs : List Grant) → count_by p (map to gs) ≡ length gs
all_of p to is [] = refl
all_of p to is (g ∷ gs) =
    let one : ◌≡◌ {A = ℕ} (cond (p (to g)) 1 0) 1 = ap (λ b. cond {A = ℕ} b 1 0) (is g) in
    omega (arith, one, sum_by-cons (λ r. cond (p r) 1 0) (to g) (map to gs), all_of p to is gs)

none_of : (p : Record → Bool) (to : Grant → Record) → ((g : Grant) → p (to g) ≡ false) → (gs : List Grant) → count_by p (map to gs) ≡ 0
none_of p to is [] = refl
none_of p to is (g ∷ gs) =
    let none : ◌≡◌ {A = ℕ} (cond (p (to g)) 1 0) 0 = ap (λ b. cond {A = ℕ} b 1 0) (is g) in
    omega (arith, none, sum_by-cons (λ r. cond (p r) 1 0) (to g) (map to gs), none_of p to is gs)

after_none : (p : Record → Bool) (r : Record) (rs : List Record) → p r ≡ false → count_by p (r ∷ rs) ≡ count_by p rs
after_none p r rs is =
    let none : ◌≡◌ {A = ℕ} (cond (p r) 1 0) 0 = ap (λ b. cond {A = ℕ} b 1 0) is in
    omega (arith, none, sum_by-cons (λ s. cond (p s) 1 0) r rs)

module _ (history : List Record) where
  pub counts-nothing : counts (history ++ []) ≡ counts history
  counts-nothing = ap counts (append-nil history)

  pub counts-granted : (n : ℕ) (c : Client) (k : Kind) (l : ℤ) (u : ℕ) → counts (history ++ Granted n c k l u ∷ [])
      ≡ record { granted = (counts history).granted + 1; short = (counts history).short; shed = (counts history).shed; sent = (counts history).sent }
  unfolding counts plus
  counts-granted n c k l u = counts-append history (Granted n c k l u ∷ []) ∙ counts_of _ _ _ _ _ _ _ _ refl (omega arith) (omega arith) (omega arith)

  pub counts-short : (n : ℕ) (c : Client) → counts (history ++ Short n c ∷ [])
      ≡ record { granted = (counts history).granted; short = (counts history).short + 1; shed = (counts history).shed; sent = (counts history).sent }
  unfolding counts plus
  counts-short n c = counts-append history (Short n c ∷ []) ∙ counts_of _ _ _ _ _ _ _ _ (omega arith) refl (omega arith) (omega arith)

  pub counts-ended : (n : ℕ) (c : Client) (k : Kind) → counts (history ++ Ended n c k ∷ []) ≡ counts history
  unfolding counts plus
  counts-ended n c k = counts-append history (Ended n c k ∷ []) ∙ counts_of _ _ _ _ _ _ _ _ (omega arith) (omega arith) (omega arith) (omega arith)

  pub counts-sent : (x j : ℕ) (gs : List Grant) → counts (history ++ Looked x j ∷ map (sent_record x) gs)
      ≡ record { granted = (counts history).granted; short = (counts history).short; shed = (counts history).shed; sent = (counts history).sent + length gs }
  unfolding counts plus
  counts-sent x j gs =
      counts-append history (Looked x j ∷ map (sent_record x) gs)
      ∙ counts_of _ _ _ _ _ _ _ _
      (omega (arith, after_none is_grant (Looked x j) (map (sent_record x) gs) refl, none_of is_grant (sent_record x) (λ g. refl) gs))
      (omega (arith, after_none is_shortage (Looked x j) (map (sent_record x) gs) refl, none_of is_shortage (sent_record x) (λ g. refl) gs))
      (omega (arith, after_none is_shedding (Looked x j) (map (sent_record x) gs) refl, none_of is_shedding (sent_record x) (λ g. refl) gs))
      (omega (arith, after_none is_sent (Looked x j) (map (sent_record x) gs) refl, all_of is_sent (sent_record x) (λ g. refl) gs))

  pub counts-shed : (x capacity : ℕ) (gs : List Grant) → counts (history ++ Capacity x capacity ∷ map (shed_record x) gs)
      ≡ record { granted = (counts history).granted; short = (counts history).short; shed = (counts history).shed + length gs; sent = (counts history).sent }
  unfolding counts plus
  counts-shed x capacity gs =
      counts-append history (Capacity x capacity ∷ map (shed_record x) gs)
      ∙ counts_of _ _ _ _ _ _ _ _
      (omega (arith, after_none is_grant (Capacity x capacity) (map (shed_record x) gs) refl, none_of is_grant (shed_record x) (λ g. refl) gs))
      (omega (arith, after_none is_shortage (Capacity x capacity) (map (shed_record x) gs) refl, none_of is_shortage (shed_record x) (λ g. refl) gs))
      (omega (arith, after_none is_shedding (Capacity x capacity) (map (shed_record x) gs) refl, all_of is_shedding (shed_record x) (λ g. refl) gs))
      (omega (arith, after_none is_sent (Capacity x capacity) (map (shed_record x) gs) refl, none_of is_sent (shed_record x) (λ g. refl) gs))

  pub counts-asked : (x : ℕ) (c : Client) → counts (history ++ Looked x (table_of c) ∷ answer_records x c (delay_answer history x c))
      ≡ record { granted = (counts history).granted; short = (counts history).short; shed = (counts history).shed; sent = (counts history).sent + cond (lawful history x c DelayResp) 1 0 }
  unfolding counts plus
  counts-asked x c =
      ap (λ rs. counts (history ++ Looked x (table_of c) ∷ rs)) (answer_records-is history x c)
      ∙ counts-append history (Looked x (table_of c) ∷ cond (lawful history x c DelayResp) (Sent x c DelayResp ∷ []) [])
      ∙ at (lawful history x c DelayResp)
    where
      at : (b : Bool) → plus (counts history) (counts (Looked x (table_of c) ∷ cond b (Sent x c DelayResp ∷ []) []))
          ≡ record { granted = (counts history).granted; short = (counts history).short; shed = (counts history).shed; sent = (counts history).sent + cond b 1 0 }
      at true = counts_of _ _ _ _ _ _ _ _ (omega arith) (omega arith) (omega arith) refl
      at false = counts_of _ _ _ _ _ _ _ _ (omega arith) (omega arith) (omega arith) (omega arith)

pub counts-empty : counts [] ≡ record { granted = 0; short = 0; shed = 0; sent = 0 }
unfolding counts
counts-empty = refl
