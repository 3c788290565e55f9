-- How many grants are live, by the rows of the tables.
use Rattle.std.proofs.Common.{◌≡◌, ◌∙◌, ◌⊎◌, inl, inr, ℕ, zero, suc, ◌+◌, ◌<◌, ◌≤◌, List, [], ◌∷◌, map, Bool, true, false, not, cond, eqb, refl, sym, ap, subst, arith}
use Rattle.std.specs.{List.{Contains, filter, sum_by}}
use Rattle.std.proofs.lemmas.List.{Filters.{sum_by-filter_both}, Kept.{AllPairs-filter}, Sums.{sum_by-cons}}
use Rattle.ptu_units.specs.declared.kind.{Kind.{Kind}, Kind.TheVariants.{Announce, Sync, DelayResp}}
use Rattle.ptu_units.specs.Client.{same_kind, table_of}
use Rattle.ptu_history.specs.{Core.{book_step_moment}, History.{Record}, Moments.{book_moment}, Verdict.{table_rates}}
use Rattle.ptu_history.specs.Live.{Grant, is_of, live_grants, without}
use Rattle.ptu_units.proofs.Keys.{same_lease-refl}
use Rattle.ptu_history.proofs.{Members.{Differ}, Rates.{rates-tables, table_below}}
use Rattle.ptu_history.proofs.{Standing.{Contains-filter}, Unique.{Apart, Contains-cons_cases, Contains-first, Contains-later}}
use Rattle.ptu_shard.specs.{declared.lease.Row.{Row}, Row.{IsDistinctByLease, share_of}, Table.{StandsAt}}
use Rattle.ptu_shard.proofs.RowLists as row_lists
use Rattle.ptu_shard.proofs.Standing.{is_live_row}
use Rattle.ptu_admit.specs.{declared.live.Live.{Live}, Lent.{lent_as, moment_for_all}}
use Rattle.ptu_admit.specs.{LiveRows.{rows_of_kind}, Newest.{grant_of}, Rows.{live_rows}}
use Rattle.ptu_admit.proofs.Grants.{apart_filter, in_table, live_share, live_there, rows_there}
use Rattle.ptu_admit.proofs.{StepMoments.{moment-all}, Sums.{distinct_grants}}
use Rattle.ptu_grandmaster.specs.declared.status.GmStatus.{GmStatus}
use Rattle.ptu_grandmaster.specs.Gm.{KeptGm, StandsFor, tables}
use Rattle.ptu_grandmaster.specs.Status.{AreAllLive, IsGmStatusOf, live_of_kind}

-- ---- grants, by any weight

module _ (w : Grant → ℕ) where
  member-le : (gs : List Grant) (g : Grant) → Contains gs g → w g ≤ sum_by w gs
  member-le [] g (i, lt, h) = absurd (omega arith)
  member-le (x ∷ gs) g h = at (Contains-cons_cases x gs g h) (member-le gs g)
    where
      at : (x ≡ g) ⊎ Contains gs g → (Contains gs g → w g ≤ sum_by w gs) → w g ≤ sum_by w (x ∷ gs)
      at (inl e) later = let same : w x ≡ w g = ap w e in omega (arith, same, sum_by-cons w x gs)
      at (inr h) later = omega (arith, later h, sum_by-cons w x gs)

  -- a distinct list whose members are among those of another weighs no more
  within : (xs ys : List Grant) → Apart Differ xs → ((g : Grant) → Contains xs g → Contains ys g) → sum_by w xs ≤ sum_by w ys
  within [] ys apart inside = omega arith
  within (x ∷ xs) ys apart inside =
      let own : w x ≤ sum_by w (filter (is_of x.client x.kind) ys) =
      member-le (filter (is_of x.client x.kind) ys) x (Contains-filter (is_of x.client x.kind) ys x (inside x (Contains-first x xs)) (same_lease-refl x.client x.kind)) in
      let ih : sum_by w xs ≤ sum_by w (without x.client x.kind ys) = within xs (without x.client x.kind ys) apart.1 (λ g h.
      Contains-filter (λ g. not (is_of x.client x.kind g)) ys g (inside g (Contains-later x xs g h)) (ap not (apart.0 g h))) in
      omega (arith, own, ih, sum_by-cons w x xs, sum_by-filter_both (is_of x.client x.kind) (λ g. not (is_of x.client x.kind g)) (λ _. refl) w ys)

  -- the clients of each table are apart
  next_in : (g : Grant) (gs : List Grant) (i j : ℕ) → table_of g.client ≡ i →
      sum_by w (filter (in_table j) (g ∷ gs)) ≡ cond (eqb i j) (w g) 0 + sum_by w (filter (in_table j) gs)
  next_in g gs i j e = ap (λ n. sum_by w (cond (eqb n j) (g ∷ filter (in_table j) gs) (filter (in_table j) gs))) e ∙ at (eqb i j)
    where
      at : (b : Bool) → sum_by w (cond b (g ∷ filter (in_table j) gs) (filter (in_table j) gs)) ≡ cond b (w g) 0 + sum_by w (filter (in_table j) gs)
      at true = sum_by-cons w g (filter (in_table j) gs)
      at false = omega arith

  in_tables : (gs : List Grant) → sum_by w gs ≡ sum_by w (filter (in_table 0) gs) + sum_by w (filter (in_table 1) gs) + sum_by w (filter (in_table 2) gs)
      + sum_by w (filter (in_table 3) gs)
  in_tables [] = refl
  in_tables (g ∷ gs) = at (table_of g.client) refl (table_below g.client) (in_tables gs)
    where
      at : (i : ℕ) → table_of g.client ≡ i → i < 4 →
          sum_by w gs ≡ sum_by w (filter (in_table 0) gs) + sum_by w (filter (in_table 1) gs) + sum_by w (filter (in_table 2) gs) + sum_by w (filter (in_table 3) gs) →
          sum_by w (g ∷ gs) ≡ sum_by w (filter (in_table 0) (g ∷ gs)) + sum_by w (filter (in_table 1) (g ∷ gs)) + sum_by w (filter (in_table 2) (g ∷ gs))
          + sum_by w (filter (in_table 3) (g ∷ gs))
      at zero e below ih = omega (arith, ih, sum_by-cons w g gs, next_in g gs 0 0 e, next_in g gs 0 1 e, next_in g gs 0 2 e, next_in g gs 0 3 e)
      at (suc zero) e below ih = omega (arith, ih, sum_by-cons w g gs, next_in g gs 1 0 e, next_in g gs 1 1 e, next_in g gs 1 2 e, next_in g gs 1 3 e)
      at (suc (suc zero)) e below ih = omega (arith, ih, sum_by-cons w g gs, next_in g gs 2 0 e, next_in g gs 2 1 e, next_in g gs 2 2 e, next_in g gs 2 3 e)
      at (suc (suc (suc zero))) e below ih = omega (arith, ih, sum_by-cons w g gs, next_in g gs 3 0 e, next_in g gs 3 1 e, next_in g gs 3 2 e, next_in g gs 3 3 e)
      at (suc (suc (suc (suc i)))) e below ih = absurd (omega arith)

  of_rows : (rs : List Row) → sum_by (λ row. w (grant_of row)) rs ≡ sum_by w (map grant_of rs)
  of_rows [] = refl
  of_rows (r ∷ rs) =
      sum_by-cons (λ row. w (grant_of row)) r rs ∙ ap (λ n. w (grant_of r) + n) (of_rows rs) ∙ sym (sum_by-cons w (grant_of r) (map grant_of rs))

  -- the live rows of a table weigh what the live grants of its clients do
  pub same_weight : (book j : ℕ) (xs : List Row) (moment : ℕ) (history : List Record) (x : ℕ) → StandsAt book j xs moment history → (book ≤ x) ⊎ (moment ≤ x) →
      IsDistinctByLease xs → sum_by (λ row. w (grant_of row)) (live_rows x xs) ≡ sum_by w (filter (in_table j) (live_grants history x))
  same_weight book j xs moment history x s reached distinct =
      let more : sum_by w (filter (in_table j) (live_grants history x)) ≤ sum_by w (map grant_of (live_rows x xs)) =
      within (filter (in_table j) (live_grants history x)) (map grant_of (live_rows x xs)) (apart_filter (in_table j) history x)
      (live_there book j xs moment history x s reached) in
      let less : sum_by w (map grant_of (live_rows x xs)) ≤ sum_by w (filter (in_table j) (live_grants history x)) =
      within (map grant_of (live_rows x xs)) (filter (in_table j) (live_grants history x))
      (distinct_grants (live_rows x xs) (AllPairs-filter row_lists.Differ (is_live_row x) xs distinct))
      (rows_there book j xs moment history x s reached) in
      omega (arith, more, less, of_rows (live_rows x xs))

-- how many grants of the kind are live at the moment, of clients of the table
table_grants : List Record → ℕ → Kind → ℕ → ℕ
table_grants history x k j = sum_by (λ (g : Grant). cond (same_kind g.kind k) 1 0) (filter (in_table j) (live_grants history x))

kinds-tables : (history : List Record) (x : ℕ) (k : Kind) → table_grants history x k 0 + table_grants history x k 1 + table_grants history x k 2
    + table_grants history x k 3 ≡ live_of_kind history x k
unfolding table_grants
kinds-tables history x k = sym (in_tables (λ (g : Grant). cond (same_kind g.kind k) 1 0) (live_grants history x))

same_count : (k : Kind) (book j : ℕ) (xs : List Row) (moment : ℕ) (history : List Record) (x : ℕ) → StandsAt book j xs moment history → (book ≤ x) ⊎ (moment ≤ x) →
    IsDistinctByLease xs → rows_of_kind k (live_rows x xs) ≡ table_grants history x k j
unfolding table_grants
same_count k book j xs moment history x s reached distinct =
    same_weight (λ (g : Grant). cond (same_kind g.kind k) 1 0) book j xs moment history x s reached distinct

-- ---- all tables

module _ {P : Type 0} (opening : ℕ) (gm : KeptGm P) (history : List Record) (s : StandsFor opening gm history) where
  is_reached : moment_for_all 0 gm.book (tables gm) ≡ book_step_moment history 0
  is_reached = moment-all opening 0 (lent_as 0 gm.s0) (lent_as 1 gm.s1) (lent_as 2 gm.s2) (lent_as 3 gm.s3) gm.book history s.decided refl refl refl refl

  reached : book_moment history ≤ moment_for_all 0 gm.book (tables gm)
  reached = let now = s.decided.moment in omega arith

  of_kind : (k : Kind) → IsDistinctByLease gm.s0.rows × IsDistinctByLease gm.s1.rows × IsDistinctByLease gm.s2.rows × IsDistinctByLease gm.s3.rows →
      rows_of_kind k (live_rows (moment_for_all 0 gm.book (tables gm)) gm.s0.rows) + rows_of_kind k (live_rows (moment_for_all 0 gm.book (tables gm)) gm.s1.rows)
      + (rows_of_kind k (live_rows (moment_for_all 0 gm.book (tables gm)) gm.s2.rows) + rows_of_kind k (live_rows (moment_for_all 0 gm.book (tables gm)) gm.s3.rows))
      ≡ live_of_kind history (book_step_moment history 0) k
  of_kind k (d0, d1, d2, d3) =
      let x = moment_for_all 0 gm.book (tables gm) in
      let t = s.decided.tables in
      let c0 : rows_of_kind k (live_rows x gm.s0.rows) ≡ table_grants history (book_step_moment history 0) k 0 =
      same_count k (book_moment history) 0 gm.s0.rows gm.s0.moment history x t.0 (inl reached) d0 ∙ ap (λ m. table_grants history m k 0) is_reached in
      let c1 : rows_of_kind k (live_rows x gm.s1.rows) ≡ table_grants history (book_step_moment history 0) k 1 =
      same_count k (book_moment history) 1 gm.s1.rows gm.s1.moment history x t.1.0 (inl reached) d1 ∙ ap (λ m. table_grants history m k 1) is_reached in
      let c2 : rows_of_kind k (live_rows x gm.s2.rows) ≡ table_grants history (book_step_moment history 0) k 2 =
      same_count k (book_moment history) 2 gm.s2.rows gm.s2.moment history x t.1.1.0 (inl reached) d2 ∙ ap (λ m. table_grants history m k 2) is_reached in
      let c3 : rows_of_kind k (live_rows x gm.s3.rows) ≡ table_grants history (book_step_moment history 0) k 3 =
      same_count k (book_moment history) 3 gm.s3.rows gm.s3.moment history x t.1.1.1.0 (inl reached) d3 ∙ ap (λ m. table_grants history m k 3) is_reached in
      omega (arith, c0, c1, c2, c3, kinds-tables history (book_step_moment history 0) k)

  pub status_is : (status : GmStatus) (live : Live) → status.moment ≡ moment_for_all 0 gm.book (tables gm) → AreAllLive status.moment gm live →
      status.held ≡ live.rates → status.announces ≡ live.announces → status.syncs ≡ live.syncs → status.delay_resps ≡ live.delay_resps →
      status.capacity ≡ gm.book.capacity → status.granted ≡ gm.granted → status.refused ≡ gm.refused → IsGmStatusOf opening history status
  status_is status live moment all held announces syncs delay_resps capacity granted refused =
      let x = moment_for_all 0 gm.book (tables gm) in
      let a : AreAllLive x gm live = subst (λ m. AreAllLive m gm live) moment all in
      let t = s.decided.tables in
      let d = a.distinct in
      let r0 : share_of (live_rows x gm.s0.rows) ≡ table_rates history (book_step_moment history 0) 0 =
      live_share (book_moment history) 0 gm.s0.rows gm.s0.moment history x t.0 (inl reached) d.0 ∙ ap (λ m. table_rates history m 0) is_reached in
      let r1 : share_of (live_rows x gm.s1.rows) ≡ table_rates history (book_step_moment history 0) 1 =
      live_share (book_moment history) 1 gm.s1.rows gm.s1.moment history x t.1.0 (inl reached) d.1 ∙ ap (λ m. table_rates history m 1) is_reached in
      let r2 : share_of (live_rows x gm.s2.rows) ≡ table_rates history (book_step_moment history 0) 2 =
      live_share (book_moment history) 2 gm.s2.rows gm.s2.moment history x t.1.1.0 (inl reached) d.2 ∙ ap (λ m. table_rates history m 2) is_reached in
      let r3 : share_of (live_rows x gm.s3.rows) ≡ table_rates history (book_step_moment history 0) 3 =
      live_share (book_moment history) 3 gm.s3.rows gm.s3.moment history x t.1.1.1.0 (inl reached) d.3 ∙ ap (λ m. table_rates history m 3) is_reached in
      record {
        moment = moment ∙ is_reached;
        capacity = capacity ∙ s.decided.capacity;
        held = omega (arith, held, a.rates, r0, r1, r2, r3, rates-tables history (book_step_moment history 0));
        announces = announces ∙ a.announces ∙ of_kind Announce d;
        syncs = syncs ∙ a.syncs ∙ of_kind Sync d;
        delay_resps = delay_resps ∙ a.delay_resps ∙ of_kind DelayResp d;
        granted = granted ∙ s.granted;
        refused = refused ∙ s.refused;
      }
