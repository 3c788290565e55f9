-- What is kept of a master's record about a kind, with one entry more, and the gate by it.
use Rattle.std.proofs.Common.{◌≡◌, ◌≢◌, ℕ, ◌+◌, ◌*◌, ◌%◌, ◌≤◌, max, Bool, true, false, cond, ◌&&◌, ◌||◌, List, [], ◌∷◌, ◌++◌, map, Option, Some, None, length, refl, ap, sym, subst, ◌∙◌, arith, leb, eqb, inl, inr, append_assoc}
use Rattle.std.proofs.lemmas.Bool.{cases_lt, eq-eqb, le-leb, le-ltb, ltb-false, or_right}
use Rattle.std.proofs.lemmas.{List.Elements.{filter_map-append}, Map.Views.{any-filter_same}}
use Rattle.std.specs.List.{cons_option, last_or, list_all, list_any, flat_map}
use Rattle.std.specs.Option.{is_some, option_map, option_to_list, unwrap_or}
use Rattle.ptu_units.specs.declared.kind.{Kind.{Kind}, Kind.TheVariants.{Announce, Sync, DelayResp}}
use Rattle.ptu_units.specs.Kind.{kinds}
use Rattle.ptu_record.specs.Lists.{last, latest_of, maximum}
use Rattle.ptu_record.specs.{Record.{Entry, Record, Cancelled, Stopped}, Wants.{is_kind}}
use Rattle.ptu_record.specs.Grants.{grant, grant_change, grant_changes, is_live, is_live_at, live_kinds}
use Rattle.ptu_record.specs.Asks.{ask_moment, gate, is_answer, open_asks, pause, refusal_gate, refusal_moment, refusals, renewal_gate}
use Rattle.ptu_record.specs.Kept.{kind_state, kind_state_after, gate_at}
use Rattle.ptu_record.proofs.ListLaws.{last_or-append, last-filter_map}
use Rattle.ptu_record.proofs.Requests.{count_more, last_ask_more, last_or-some, due_of, grant-push, grant_stopped, is_kind-same}

third_more : (b c : Bool) (n : ℕ) → cond b 0 (n + cond c 1 0) % 3 ≡ cond b 0 ((n % 3 + cond c 1 0) % 3)
third_more true c n = refl
third_more false true n = omega arith
third_more false false n = omega arith

pub kind_state-push : (k : Kind) (L : Record) (e : Entry) → kind_state k (L ++ e ∷ []) ≡ kind_state_after k (kind_state k L) e
kind_state-push k L e =
    ap (λ n. record { unanswered = n; asked = last (open_asks k (L ++ e ∷ [])); refused = last (refusals k (L ++ e ∷ [])); granted = grant k (L ++ e ∷ []) })
    (ap (λ n. n % 3) (count_more k L e) ∙ third_more (is_answer k e) (is_some (ask_moment k e)) (length (open_asks k L)))
    ∙ ap (λ a. record { unanswered = (kind_state_after k (kind_state k L) e).unanswered; asked = a; refused = last (refusals k (L ++ e ∷ [])); granted = grant k (L ++ e ∷ []) }) (last_ask_more k L e)
    ∙ ap (λ r. record { unanswered = (kind_state_after k (kind_state k L) e).unanswered; asked = (kind_state_after k (kind_state k L) e).asked; refused = r; granted = grant k (L ++ e ∷ []) }) (last-filter_map (refusal_moment k) L e)
    ∙ ap (λ g. record { unanswered = (kind_state_after k (kind_state k L) e).unanswered; asked = (kind_state_after k (kind_state k L) e).asked; refused = (kind_state_after k (kind_state k L) e).refused; granted = g }) (grant-push k L e)

-- a pause goes by the count modulo 3 alone
pause-third : (n : ℕ) → pause n ≡ pause (n % 3)
pause-third n = ap (λ c. cond (eqb c 0) 60000000000 1000000000) (twice n)
  where
    twice : (n : ℕ) → n % 3 ≡ n % 3 % 3
    twice n = omega arith

pub gate-kept : (k : Kind) (L : Record) (t : ℕ) → gate k L t ≡ gate_at (kind_state k L) t
gate-kept k L t =
    ap (λ p. maximum (flat_map option_to_list (option_map (λ at. at + p) (last (open_asks k L)) ∷ refusal_gate k L ∷ renewal_gate k L t ∷ [])))
    (pause-third (length (open_asks k L)))

-- ---- the gate is the greatest of its values

max_any : (x : ℕ) (xs : List ℕ) → list_any (λ y. eqb y (maximum (x ∷ xs))) (x ∷ xs) ≡ true
max_any x [] = ap (λ b. b || false) (eq-eqb x (max x 0) (omega arith))
max_any x (y ∷ ys) =
    elim (cases_lt x (maximum (y ∷ ys))) as (λ _. list_any (λ z. eqb z (maximum (x ∷ y ∷ ys))) (x ∷ y ∷ ys) ≡ true) [
      | inl below ↦ (let over : max x (maximum (y ∷ ys)) ≡ maximum (y ∷ ys) = omega arith in
          ap (λ g. list_any (λ z. eqb z g) (x ∷ y ∷ ys)) over ∙ or_right (eqb x (maximum (y ∷ ys))) _ (max_any y ys))
      | inr above ↦ ap (λ b. b || list_any (λ z. eqb z (maximum (x ∷ y ∷ ys))) (y ∷ ys)) (eq-eqb x (maximum (x ∷ y ∷ ys)) (omega arith))
    ]

pub maximum_any : (xs : List ℕ) → xs ≢ [] → list_any (λ y. eqb y (maximum xs)) xs ≡ true
maximum_any [] some = absurd (some refl)
maximum_any (x ∷ xs) some = max_any x xs

pub maximum_all : (xs : List ℕ) → list_all (λ y. leb y (maximum xs)) xs ≡ true
maximum_all xs = sym (due_of (maximum xs) xs) ∙ le-leb (maximum xs) (maximum xs) (omega arith)

pub latest_any : (xs : List ℕ) (g : ℕ) → latest_of xs ≡ Some g → list_any (λ y. eqb y g) xs ≡ true
latest_any [] g e = absurd (cc e)
latest_any (x ∷ xs) g e = let same : maximum (x ∷ xs) ≡ g = cc e in subst (λ n. list_any (λ y. eqb y n) (x ∷ xs) ≡ true) same (max_any x xs)

pub latest_all : (xs : List ℕ) (g : ℕ) → latest_of xs ≡ Some g → list_all (λ y. leb y g) xs ≡ true
latest_all [] g e = refl
latest_all (x ∷ xs) g e = let same : maximum (x ∷ xs) ≡ g = cc e in subst (λ n. list_all (λ y. leb y n) (x ∷ xs) ≡ true) same (maximum_all (x ∷ xs))

-- ---- the stop, and a CANCEL of each live grant

last_or-flat : {A : Type 0} (o : Option (Option A)) (xs : List (Option A)) → unwrap_or (last_or o xs) None ≡ unwrap_or (last_or None xs) (unwrap_or o None)
last_or-flat o [] = refl
last_or-flat o (x ∷ xs) = ap (λ w. unwrap_or w None) (last_or-some x xs) ∙ sym (ap (λ w. unwrap_or w (unwrap_or o None)) (last_or-some x xs))

grant-append : (k : Kind) (L M : Record) → grant k (L ++ M) ≡ unwrap_or (last (grant_changes k M)) (grant k L)
grant-append k L M =
    ap (λ w. unwrap_or (last w) None) (filter_map-append (grant_change k) L M)
    ∙ ap (λ w. unwrap_or w None) (last_or-append None (grant_changes k L) (grant_changes k M))
    ∙ last_or-flat (last (grant_changes k L)) (grant_changes k M)

-- behind an end there is nothing but ends
only_ends : (k : Kind) (x m : ℕ) (ks : List Kind) → last_or (Some None) (grant_changes k (map (Cancelled x m) ks)) ≡ Some None
only_ends k x m [] = refl
only_ends k x m (j ∷ ks) = pick (is_kind k j) (only_ends k x m ks)
  where
    pick : (b : Bool) → last_or (Some None) (grant_changes k (map (Cancelled x m) ks)) ≡ Some None
        → last_or (Some None) (cons_option (cond b (Some None) None) (grant_changes k (map (Cancelled x m) ks))) ≡ Some None
    pick true h = h
    pick false h = h

cancelled_ends : (k : Kind) (x m : ℕ) (ks : List Kind) (g : Option (ℕ × ℕ)) → unwrap_or (last (grant_changes k (map (Cancelled x m) ks))) g ≡ cond (list_any (is_kind k) ks) None g
cancelled_ends k x m [] g = refl
cancelled_ends k x m (j ∷ ks) g = pick (is_kind k j) (cancelled_ends k x m ks g)
  where
    pick : (b : Bool) → unwrap_or (last (grant_changes k (map (Cancelled x m) ks))) g ≡ cond (list_any (is_kind k) ks) None g
        → unwrap_or (last (cons_option (cond b (Some None) None) (grant_changes k (map (Cancelled x m) ks)))) g ≡ cond (b || list_any (is_kind k) ks) None g
    pick true h = ap (λ o. unwrap_or o g) (only_ends k x m ks)
    pick false h = h

kinds_any : (k : Kind) → list_any (is_kind k) kinds ≡ true
kinds_any Announce = refl
kinds_any Sync = refl
kinds_any DelayResp = refl

live_listed : (k : Kind) (L : Record) (t : ℕ) → list_any (is_kind k) (live_kinds L t) ≡ is_live k L t
live_listed k L t =
    any-filter_same (is_kind k) (λ j. is_live j L t) (is_live k L t) (λ j same. ap (λ i. is_live i L t) (sym (is_kind-same k j same))) kinds
    ∙ ap (λ b. is_live k L t && b) (kinds_any k) ∙ and_true (is_live k L t)
  where
    and_true : (b : Bool) → (b && true) ≡ b
    and_true true = refl
    and_true false = refl

stays_over : (g : Option (ℕ × ℕ)) (x t : ℕ) → x ≤ t → is_live_at g x ≡ false → is_live_at g t ≡ false
stays_over None x t le over = refl
stays_over (Some g) x t le over = le-ltb t (g.0 + g.1 * 1000000000) (past g (ltb-false x (g.0 + g.1 * 1000000000) over))
  where
    past : (g : ℕ × ℕ) → g.0 + g.1 * 1000000000 ≤ x → g.0 + g.1 * 1000000000 ≤ t
    past g more = omega arith

pub all_cancelled : (k : Kind) (L : Record) (x m t : ℕ) → x ≤ t → is_live k (L ++ map (Cancelled x m) (live_kinds L x)) t ≡ false
all_cancelled k L x m t le =
    ap (λ g. is_live_at g t) (grant-append k L (map (Cancelled x m) (live_kinds L x)) ∙ cancelled_ends k x m (live_kinds L x) (grant k L)
    ∙ ap (λ b. cond b None (grant k L)) (live_listed k L x))
    ∙ pick (is_live k L x) refl
  where
    pick : (b : Bool) → is_live k L x ≡ b → is_live_at (cond b None (grant k L)) t ≡ false
    pick true is = refl
    pick false is = stays_over (grant k L) x t le is

pub stop_as_cancels : (k : Kind) (L M : Record) (x m t : ℕ) → x ≤ t
    → is_live k (L ++ map (Cancelled x m) (live_kinds L x) ++ M) t ≡ is_live k (L ++ Stopped x ∷ M) t
stop_as_cancels k L M x m t le =
    ap (λ g. is_live_at g t) (grant-append k (L ++ map (Cancelled x m) (live_kinds L x)) M) ∙ pick (last (grant_changes k M))
    ∙ sym (ap (λ g. is_live_at g t) (ap (grant k) (sym (append_assoc L (Stopped x ∷ []) M)) ∙ grant-append k (L ++ Stopped x ∷ []) M ∙ ap (unwrap_or (last (grant_changes k M))) (grant_stopped k L x)))
  where
    pick : (c : Option (Option (ℕ × ℕ))) → is_live_at (unwrap_or c (grant k (L ++ map (Cancelled x m) (live_kinds L x)))) t ≡ is_live_at (unwrap_or c None) t
    pick None = all_cancelled k L x m t le
    pick (Some g) = refl
