-- What the fields of a table say of its rows, after what is done with them.
use Rattle.std.proofs.Common.{◌≡◌, ◌∙◌, ◌⊎◌, inl, inr, ℕ, ◌+◌, ◌*◌, ◌<◌, ◌≤◌, List, ◌∷◌, length, Bool, true, false, cond, eqb, ltb, refl, sym, ap, subst, arith, Option, Some, None}
use Rattle.std.specs.{List.{Contains}, List.Sorted.{IsPermutation}}
use Rattle.std.proofs.lemmas.{Bool.{and_parts, eqb-true, ltb-true, true≢false}, List.{length-map}}
use Rattle.std.proofs.lemmas.List.Sorted.{Contains-permutation, IsPermutation-sym}
use Rattle.ptu_units.specs.declared.kind.{Kind.{Kind}, Kind.TheVariants.{DelayResp}}
use Rattle.ptu_units.specs.declared.client.Client.{Client}
use Rattle.ptu_history.specs.Turns.{is_turned}
use Rattle.ptu_units.proofs.Keys.{same_lease-true}
use Rattle.ptu_history.proofs.Unique.{Contains-cons_cases}
use Rattle.ptu_shard.specs.declared.{lease.Row.{Row}, queue.Entry.{Entry}, lease.Lease.{Lease}}
use Rattle.ptu_shard.specs.{declared.rows.Key.{Key}, Fields.{AreFields, row_of, rows_of}}
use Rattle.ptu_shard.specs.Queue.{HasEdges, HasEnds, Queued, edge_entry, end_entry, is_edge_kept}
use Rattle.ptu_shard.specs.Row.{is_row_of, lease_of, without_row}
use Rattle.ptu_shard.specs.Turn.{is_answering_row, is_lawful_row, spent_row, spent_where}
use Rattle.ptu_shard.proofs.{Members.{kept_row, other_rows}, Spending.{IsImage, image}}

-- fewer rows, at a later moment
pub edges_fewer : (m n : ℕ) (rows new : List Row) (entries : List Entry) → m ≤ n → HasEdges m rows entries → ((z : Row) → Contains new z → Contains rows z) → HasEdges n new entries
edges_fewer m n rows new entries later has from z h turned live = has z (from z h) turned (omega (arith, later, live))

pub ends_fewer : (rows new : List Row) (entries : List Entry) → HasEnds rows entries → ((z : Row) → Contains new z → Contains rows z) → HasEnds new entries
ends_fewer rows new entries has from z h = has z (from z h)

-- messages leave the ends
pub ends_spent : (test : Row → Bool) (x : ℕ) (rows : List Row) (entries : List Entry) → HasEnds rows entries → HasEnds (spent_where test x rows) entries
ends_spent test x rows entries has z h = from (image (λ row. cond (test row) (spent_row x row) row) rows z h)
  where
    same : (y : Row) (b : Bool) → end_entry (cond b (spent_row x y) y) ≡ end_entry y
    same y true = refl
    same y false = refl

    from : IsImage (λ row. cond (test row) (spent_row x row) row) rows z → Contains entries (end_entry z)
    from i = subst (Contains entries) (sym (same i.from (test i.from)) ∙ ap end_entry i.is) (has i.from i.contained)

-- an answer to a Delay_Req leaves what turns send
pub edges_answered : (m x : ℕ) (c : Client) (rows : List Row) (entries : List Entry) → m ≤ x → HasEdges m rows entries → HasEdges x (spent_where (is_answering_row x c) x rows) entries
edges_answered m x c rows entries later has z h = from (image (λ row. cond (is_answering_row x c row) (spent_row x row) row) rows z h)
  where
    at : (y : Row) → Contains rows y → (b : Bool) → is_answering_row x c y ≡ b → is_turned (cond b (spent_row x y) y).kind ≡ true → x < (cond b (spent_row x y) y).lease.until → Contains entries (edge_entry (cond b (spent_row x y) y))
    at y k true answers turned live =
        let own = (and_parts (is_row_of c DelayResp y) (is_lawful_row x y) answers).0 in
        let same = same_lease-true c DelayResp y.client y.kind own in
        absurd (true≢false (sym turned ∙ ap is_turned (sym same.1)))
    at y k false other turned live = has y k turned (omega (arith, later, live))

    from : IsImage (λ row. cond (is_answering_row x c row) (spent_row x row) row) rows z → is_turned z.kind ≡ true → x < z.lease.until → Contains entries (edge_entry z)
    from i = subst (λ z. is_turned z.kind ≡ true → x < z.lease.until → Contains entries (edge_entry z)) i.is (at i.from i.contained (is_answering_row x c i.from) refl)

-- a row that is put
module _ (row : Row) (rows new : List Row) (put : IsPermutation (row ∷ without_row row.client row.kind rows) new) where
  put_from : (z : Row) → Contains new z → (row ≡ z) ⊎ Contains rows z
  put_from z h = at (Contains-cons_cases row (without_row row.client row.kind rows) z (Contains-permutation new (row ∷ without_row row.client row.kind rows) z (IsPermutation-sym (row ∷ without_row row.client row.kind rows) new put) h))
    where
      at : (row ≡ z) ⊎ Contains (without_row row.client row.kind rows) z → (row ≡ z) ⊎ Contains rows z
      at (inl e) = inl e
      at (inr k) = inr (other_rows row.client row.kind rows z k).0

  pub edges_put : (old entries : List Entry) → (is_turned row.kind ≡ true → Contains new row → Contains entries (edge_entry row)) →
      ((z : Row) → Contains new z → is_turned z.kind ≡ true → Contains old (edge_entry z) → Contains entries (edge_entry z)) →
      (m : ℕ) → HasEdges m rows old → HasEdges m new entries
  edges_put old entries own kept m has z h turned live = at (put_from z h)
    where
      at : (row ≡ z) ⊎ Contains rows z → Contains entries (edge_entry z)
      at (inl e) = subst (λ y. Contains entries (edge_entry y)) e (own (subst (λ y. is_turned y.kind ≡ true) (sym e) turned) (subst (Contains new) (sym e) h))
      at (inr k) = kept z h turned (has z k turned live)

  -- where the lease that it replaces was live and due at the same moment, the queue stays
  pub edges_stay : (entries : List Entry) (m : ℕ) (replaced : Option Lease) → replaced ≡ lease_of row.client row.kind rows → is_edge_kept m row replaced ≡ true →
      HasEdges m rows entries → HasEdges m new entries
  edges_stay entries m None was kept has z h turned live = absurd (true≢false (sym kept))
  edges_stay entries m (Some l) was kept has z h turned live = at (put_from z h)
    where
      both : (ltb m l.until ≡ true) × (eqb l.edge row.lease.edge ≡ true)
      both = and_parts (ltb m l.until) (eqb l.edge row.lease.edge) kept

      at : (row ≡ z) ⊎ Contains rows z → Contains entries (edge_entry z)
      at (inl e) =
          let former : Row = record { client = row.client; kind = row.kind; lease = l } in
          let there : Contains entries (edge_entry former) = has former (kept_row row.client row.kind rows l (sym was)) (subst (λ (y : Row). is_turned y.kind ≡ true) (sym e) turned) (ltb-true m l.until both.0) in
          subst (Contains entries) (ap (λ n. record { moment = n; client = row.client; kind = row.kind }) (eqb-true l.edge row.lease.edge both.1) ∙ ap edge_entry e) there
      at (inr k) = has z k turned live

  pub ends_put : (old entries : List Entry) → (Contains new row → Contains entries (end_entry row)) →
      ((z : Row) → Contains new z → Contains old (end_entry z) → Contains entries (end_entry z)) → HasEnds rows old → HasEnds new entries
  ends_put old entries own kept has z h = at (put_from z h)
    where
      at : (row ≡ z) ⊎ Contains rows z → Contains entries (end_entry z)
      at (inl e) = subst (λ y. Contains entries (end_entry y)) e (own (subst (Contains new) (sym e) h))
      at (inr k) = kept z h (has z k)

-- the same rows, with more room
pub kept_more : (rows new : List Row) (spare spare' share moment room room' : ℕ) (edges edges' ends ends' : Queued) → AreFields rows spare share moment room edges ends → rows ≡ new →
    edges'.entries ≡ edges.entries → ends'.entries ≡ ends.entries → room ≤ room' → room' ≤ length rows + spare' → 2 * room' ≤ edges'.capacity → 2 * room' ≤ ends'.capacity →
    AreFields new spare' share moment room' edges' ends'
kept_more rows new spare spare' share moment room room' edges edges' ends ends' kept same edge_same end_same more fits edge_room end_room =
    subst (λ l. AreFields l spare' share moment room' edges' ends') same (record {
      distinct = kept.distinct;
      held = kept.held;
      due = subst (HasEdges moment rows) (sym edge_same) kept.due;
      over = subst (HasEnds rows) (sym end_same) kept.over;
      within = omega (arith, kept.within, more);
      fits = fits;
      edge_room = edge_room;
      end_room = end_room;
    })

-- messages leave how many there are
pub length-spent : (test : Row → Bool) (x : ℕ) (old new : List (Key × Lease)) → rows_of new ≡ spent_where test x (rows_of old) → length new ≡ length old
length-spent test x old new same =
    sym (length-map new row_of) ∙ ap length same ∙ length-map (rows_of old) (λ row. cond (test row) (spent_row x row) row) ∙ length-map old row_of

-- a row that is dropped
pub dropped_from : (c : Client) (k : Kind) (rows new : List Row) → IsPermutation (without_row c k rows) new → (z : Row) → Contains new z → Contains rows z
dropped_from c k rows new dropped z h = (other_rows c k rows z (Contains-permutation new (without_row c k rows) z (IsPermutation-sym (without_row c k rows) new dropped) h)).0
