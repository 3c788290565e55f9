-- What is left at the close.
use Rattle.std.proofs.Common.{◌≡◌, inl, ℕ, ◌≤◌, List, [], ◌∷◌, Bool, true, false, cond, max, refl, sym, ap, ◌∙◌, arith}
use Rattle.std.specs.{Prelude.{nat_lt}, List.{filter}}
use Rattle.ptu_history.specs.{Core.{book_step_moment}, History.{Record}, Moments.{book_moment}}
use Rattle.ptu_history.specs.Verdict.{table_rates}
use Rattle.ptu_shard.specs.{declared.lease.Row.{Row}, Row.{IsDistinctByLease, share_of}}
use Rattle.ptu_shard.specs.Table.{Kept, StandsAt}
use Rattle.ptu_admit.specs.{Book.{KeptBook}, Lent.{StandFor, four, lent_as, moment_for_all}}
use Rattle.ptu_admit.specs.{Rows.{live_rows}, Tables.{IsSwept}}
use Rattle.ptu_admit.proofs.{Grants.{live_share}, Lending.{swept_stands}, StepMoments.{moment-all}}
use Rattle.ptu_admit.proofs.Sums.{share_of-filter-permuted, share_of-permuted}

filter_again : {A : Type 0} (p : A → Bool) (xs : List A) → filter p (filter p xs) ≡ filter p xs
filter_again p [] = refl
filter_again p (x ∷ xs) = at (p x) refl (filter_again p xs)
  where
    at : (b : Bool) → p x ≡ b → filter p (filter p xs) ≡ filter p xs → filter p (cond b (x ∷ filter p xs) (filter p xs)) ≡ cond b (x ∷ filter p xs) (filter p xs)
    at true e ih = ap (λ b. cond b (x ∷ filter p (filter p xs)) (filter p (filter p xs))) e ∙ ap (λ ys. x ∷ ys) ih
    at false e ih = ih

pub swept_share : {P : Type 0} (n : ℕ) (old new : Kept P) → IsSwept n old new → share_of new.rows ≡ share_of (live_rows n old.rows)
swept_share n old new swept = share_of-permuted (live_rows n old.rows) new.rows swept.rows

closed_one : {P : Type 0} (b n j : ℕ) (old new : Kept P) (history : List Record) → IsSwept n old new → StandsAt b j old.rows old.moment history → IsDistinctByLease new.rows → b ≤ n →
    share_of new.rows ≡ table_rates history n j
closed_one b n j old new history swept s distinct le =
    let is_live = λ (row : Row). nat_lt n row.lease.until in
    swept_share n old new swept
    ∙ ap share_of (sym (filter_again is_live old.rows))
    ∙ sym (share_of-filter-permuted is_live (live_rows n old.rows) new.rows swept.rows)
    ∙ live_share (max b n) j new.rows new.moment history n (swept_stands b n j old new history swept s) (inl (omega arith)) distinct

module _ {P : Type 0} (opening : ℕ) (a b d e a' b' d' e' : Kept P) (book : KeptBook) (history : List Record) (s : StandFor opening (four a b d e) book history) where
  is_step : moment_for_all 0 book (four a b d e) ≡ book_step_moment history 0
  is_step = moment-all opening 0 (lent_as 0 a) (lent_as 1 b) (lent_as 2 d) (lent_as 3 e) book history s refl refl refl refl

  reached : book_moment history ≤ moment_for_all 0 book (four a b d e)
  reached = let now = s.moment in omega arith

  pub closed_0 : IsSwept (moment_for_all 0 book (four a b d e)) a a' → IsDistinctByLease a'.rows → share_of a'.rows ≡ table_rates history (book_step_moment history 0) 0
  closed_0 swept distinct = closed_one (book_moment history) (moment_for_all 0 book (four a b d e)) 0 a a' history swept s.tables.0 distinct reached ∙ ap (λ x. table_rates history x 0) is_step

  pub closed_1 : IsSwept (moment_for_all 0 book (four a b d e)) b b' → IsDistinctByLease b'.rows → share_of b'.rows ≡ table_rates history (book_step_moment history 0) 1
  closed_1 swept distinct = closed_one (book_moment history) (moment_for_all 0 book (four a b d e)) 1 b b' history swept s.tables.1.0 distinct reached ∙ ap (λ x. table_rates history x 1) is_step

  pub closed_2 : IsSwept (moment_for_all 0 book (four a b d e)) d d' → IsDistinctByLease d'.rows → share_of d'.rows ≡ table_rates history (book_step_moment history 0) 2
  closed_2 swept distinct = closed_one (book_moment history) (moment_for_all 0 book (four a b d e)) 2 d d' history swept s.tables.1.1.0 distinct reached ∙ ap (λ x. table_rates history x 2) is_step

  pub closed_3 : IsSwept (moment_for_all 0 book (four a b d e)) e e' → IsDistinctByLease e'.rows → share_of e'.rows ≡ table_rates history (book_step_moment history 0) 3
  closed_3 swept distinct = closed_one (book_moment history) (moment_for_all 0 book (four a b d e)) 3 e e' history swept s.tables.1.1.1.0 distinct reached ∙ ap (λ x. table_rates history x 3) is_step

pub four_counts : (p q r t p' q' r' t' : ℕ) → p ≡ p' → q ≡ q' → r ≡ r' → t ≡ t' → ◌≡◌ {A = List ℕ} (p ∷ q ∷ r ∷ t ∷ []) (p' ∷ q' ∷ r' ∷ t' ∷ [])
four_counts p q r t p' q' r' t' a b c d = λ i. a i ∷ b i ∷ c i ∷ d i ∷ []
