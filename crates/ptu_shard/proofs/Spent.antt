-- One row that is written after a message.
use Rattle.std.proofs.Common.{◌≡◌, ◌∙◌, ℕ, List, Bool, true, false, ◌&&◌, cond, refl, sym, ap, ap₂, subst, map, Option, Some, None}
use Rattle.std.specs.{Prelude.{IfNone, IfSome}, List.{Contains}}
use Rattle.ptu_units.specs.declared.kind.Kind.TheVariants.{DelayResp}
use Rattle.ptu_units.specs.{declared.client.Client.{Client}, Client.{same_lease}}
use Rattle.std.proofs.lemmas.Bool.{true≢false}
use Rattle.ptu_units.proofs.Keys.{same_lease-refl}
use Rattle.ptu_history.proofs.Unique.{Apart}
use Rattle.ptu_shard.specs.declared.{lease.Lease.{Lease}, lease.Row.{Row}, queue.Entry.{Entry}}
use Rattle.ptu_shard.specs.{Queue.{edge_entry, row_by}, Row.{is_row_of, lease_of}}
use Rattle.ptu_shard.specs.Turn.{answered_lease, answering_row, is_answering_row, is_due_row, is_lawful_row, spent_row, spent_where}
use Rattle.ptu_shard.proofs.{RowLists.{Differ, missing_none}, Spending.{spent_agree}}
use Rattle.ptu_shard.proofs.Members.{kept_row, map_agree, map_same, one_row}

module _ (x : ℕ) (rows : List Row) (apart : Apart Differ rows) where
  pub written_spent : (r s : Row) → Contains rows r → s ≡ spent_row x r →
      map (λ z. cond (is_row_of s.client s.kind z) s z) rows ≡ spent_where (is_row_of r.client r.kind) x rows
  written_spent r s kept is =
      subst (λ s. map (λ z. cond (is_row_of s.client s.kind z) s z) rows ≡ spent_where (is_row_of r.client r.kind) x rows) (sym is)
      (map_agree (λ z. cond (is_row_of r.client r.kind z) (spent_row x r) z) (λ z. cond (is_row_of r.client r.kind z) (spent_row x z) z) rows
      (λ z h. at z h (is_row_of r.client r.kind z) refl))
    where
      at : (z : Row) → Contains rows z → (b : Bool) → is_row_of r.client r.kind z ≡ b → cond b (spent_row x r) z ≡ cond b (spent_row x z) z
      at z h true own = ap (spent_row x) (one_row rows apart r z kept h own)
      at z h false other = refl

  -- a row by its entry
  pub by_entry : (e : Entry) (r z : Row) → Contains rows r → r.client ≡ e.client → r.kind ≡ e.kind → Contains rows z → edge_entry z ≡ e → r ≡ z
  by_entry e r z kept client kind h same =
      let c_is : r.client ≡ z.client = client ∙ sym (ap (λ (e : Entry). e.client) same) in
      let k_is : r.kind ≡ z.kind = kind ∙ sym (ap (λ (e : Entry). e.kind) same) in
      one_row rows apart r z kept h (ap₂ (λ d k. same_lease d k z.client z.kind) c_is k_is ∙ same_lease-refl z.client z.kind)

  pub no_entry : (e : Entry) → lease_of e.client e.kind rows ≡ None → (z : Row) → Contains rows z → edge_entry z ≡ e → ⊥
  no_entry e none z h same =
      let c_is : e.client ≡ z.client = sym (ap (λ (e : Entry). e.client) same) in
      let k_is : e.kind ≡ z.kind = sym (ap (λ (e : Entry). e.kind) same) in
      true≢false (sym (ap₂ (λ d k. same_lease d k z.client z.kind) c_is k_is ∙ same_lease-refl z.client z.kind) ∙ missing_none e.client e.kind rows none z h)

  -- the row of an entry is looked up, and its lease written in place
  module _ (e : Entry) (l w : Lease) (found : lease_of e.client e.kind rows ≡ Some l) (new : List Row)
      (writes : new ≡ map (λ z. cond (is_row_of e.client e.kind z) (row_by e w) z) rows) where
    own_row : Contains rows (row_by e l)
    own_row = kept_row e.client e.kind rows l found

    pub due_is : (result : Option Row) → IfSome result (λ row. (row ≡ row_by e l) × (edge_entry row ≡ e) × (is_due_row x row ≡ true)) →
        IfSome result (λ row. Contains rows row × (edge_entry row ≡ e) × (is_due_row x row ≡ true))
    due_is None h = tt
    due_is (Some row) h = (subst (Contains rows) (sym h.0) own_row, h.1, h.2)

    pub spent_is : (result : Option Row) → IfSome result (λ row. (row ≡ row_by e l) × (edge_entry row ≡ e) × (is_due_row x row ≡ true)) →
        IfSome result (λ row. w ≡ (spent_row x row).lease) → IfSome result (λ row. new ≡ spent_where (is_row_of row.client row.kind) x rows)
    spent_is None h k = tt
    spent_is (Some row) h k =
        let lease : w ≡ (spent_row x (row_by e l)).lease = k ∙ ap (λ (r : Row). (spent_row x r).lease) h.0 in
        writes ∙ written_spent (row_by e l) (row_by e w) own_row (ap (row_by e) lease)
        ∙ ap (λ (r : Row). spent_where (is_row_of r.client r.kind) x rows) (sym h.0)

    pub none_is : (result : Option Row) → IfNone result (edge_entry (row_by e l) ≡ e → is_due_row x (row_by e l) ≡ false) →
        IfNone result ((row : Row) → Contains rows row → edge_entry row ≡ e → is_due_row x row ≡ false)
    none_is None h = λ z k same.
        let is : row_by e l ≡ z = by_entry e (row_by e l) z own_row refl refl k same in
        ap (is_due_row x) (sym is) ∙ h (ap edge_entry is ∙ same)
    none_is (Some row) h = tt

    pub same_is : (result : Option Row) → IfNone result (w ≡ l) → IfNone result (new ≡ rows)
    same_is None h = writes ∙ map_same (λ z. cond (is_row_of e.client e.kind z) (row_by e w) z) rows (λ z k. at z k (is_row_of e.client e.kind z) refl)
      where
        at : (z : Row) → Contains rows z → (b : Bool) → is_row_of e.client e.kind z ≡ b → cond b (row_by e w) z ≡ z
        at z k true own = ap (row_by e) h ∙ one_row rows apart (row_by e l) z own_row k own
        at z k false other = refl
    same_is (Some row) h = tt

  -- a Delay_Req where no row is of the client
  pub answering_none : (c : Client) → lease_of c DelayResp rows ≡ None → rows ≡ spent_where (is_answering_row x c) x rows
  answering_none c none =
      sym (map_same (λ z. cond (is_answering_row x c z) (spent_row x z) z) rows
      (λ z h. ap (λ b. cond (b && is_lawful_row x z) (spent_row x z) z) (missing_none c DelayResp rows none z h)))

  module _ (c : Client) (r : Row) (kept : Contains rows r) (client : r.client ≡ c) (kind : r.kind ≡ DelayResp) where
    own_is : (z : Row) → Contains rows z → is_row_of c DelayResp z ≡ true → r ≡ z
    own_is z h own = one_row rows apart r z kept h (ap₂ (λ d k. same_lease d k z.client z.kind) client kind ∙ own)

    -- where none is lawful yet, or the lease is over
    pub answering_early : is_lawful_row x r ≡ false → rows ≡ spent_where (is_answering_row x c) x rows
    answering_early early = sym (map_same (λ z. cond (is_answering_row x c z) (spent_row x z) z) rows (λ z h. at z h (is_row_of c DelayResp z) refl))
      where
        at : (z : Row) → Contains rows z → (b : Bool) → is_row_of c DelayResp z ≡ b → cond (b && is_lawful_row x z) (spent_row x z) z ≡ z
        at z h true own = ap (λ b. cond b (spent_row x z) z) (sym (ap (is_lawful_row x) (own_is z h own)) ∙ early)
        at z h false other = refl

    -- where one is lawful
    pub answering_now : is_lawful_row x r ≡ true → spent_where (is_row_of r.client r.kind) x rows ≡ spent_where (is_answering_row x c) x rows
    answering_now lawful =
        spent_agree (is_row_of r.client r.kind) (is_answering_row x c) x rows
        (λ z h. ap₂ (λ d k. same_lease d k z.client z.kind) client kind ∙ at z h (is_row_of c DelayResp z) refl)
      where
        at : (z : Row) → Contains rows z → (b : Bool) → is_row_of c DelayResp z ≡ b → b ≡ (b && is_lawful_row x z)
        at z h true own = sym (sym (ap (is_lawful_row x) (own_is z h own)) ∙ lawful)
        at z h false other = refl

  -- where the client's lease is looked up, and written in place
  pub answering_is : (c : Client) (l w : Lease) → lease_of c DelayResp rows ≡ Some l → w ≡ answered_lease x c l → (new : List Row) →
      new ≡ map (λ z. cond (is_row_of c DelayResp z) (answering_row c w) z) rows → new ≡ spent_where (is_answering_row x c) x rows
  answering_is c l w found lease new writes = at (is_lawful_row x r) refl
    where
      r : Row
      r = answering_row c l

      own : Contains rows r
      own = kept_row c DelayResp rows l found

      at : (b : Bool) → is_lawful_row x r ≡ b → new ≡ spent_where (is_answering_row x c) x rows
      at true now =
          let is : w ≡ (spent_row x r).lease = lease ∙ ap (λ b. cond b (spent_row x r).lease l) now in
          writes ∙ written_spent r (answering_row c w) own (ap (answering_row c) is) ∙ answering_now c r own refl refl now
      at false early =
          let is : w ≡ l = lease ∙ ap (λ b. cond b (spent_row x r).lease l) early in
          writes ∙ map_same (λ z. cond (is_row_of c DelayResp z) (answering_row c w) z) rows (λ z k. same z k is (is_row_of c DelayResp z) refl) ∙ answering_early c r own refl refl early
        where
          same : (z : Row) → Contains rows z → w ≡ l → (b : Bool) → is_row_of c DelayResp z ≡ b → cond b (answering_row c w) z ≡ z
          same z k is true same_row = ap (answering_row c) is ∙ one_row rows apart r z own k same_row
          same z k is false other = refl
