-- The outage ends of a master's record with one entry more.
use Rattle.std.proofs.Common.{arith, ◌≡◌, ℕ, ◌+◌, ◌<◌, ◌≤◌, Bool, true, false, cond, not, ◌&&◌, List, [], ◌∷◌, ◌++◌, map, max, Option, Some, None, refl, ap, sym, subst, ◌∙◌, ltb, inl, inr, ◌⊎◌, append_assoc}
use Rattle.std.proofs.lemmas.{Bool.{ltb-true, ltb-false, lt-ltb, le-ltb}, List.{append-nil}}
use Rattle.std.proofs.lemmas.List.Elements.{filter-append}
use Rattle.std.specs.List.{list_any, filter, filter_map}
use Rattle.std.specs.Option.{option_map, option_to_list, unwrap_or}
use Rattle.ptu_record.specs.Lists.{newest_of, last, maximum, neighbours, latest_of, later_of}
use Rattle.ptu_record.specs.Record.{Entry, Record, moment_of, Announce, Sync, Resp, Told, Judge, Judged, Asked, Granted, Denied, Cancelled, Probed, Signalled, Stopped, Event}
use Rattle.ptu_record.specs.SignalFails.{is_unusable, Timeouts, is_lost, announce_moment, sync_moment, resp_moment, judgement, announces, syncs, resps, judgements, late_moments, cleared_moments, outage_ends, is_waiting}
use Rattle.ptu_record.specs.OutageEnds.{late_at, end_at, is_within}
use Rattle.ptu_record.proofs.ListLaws.{last-filter_map, beside, neighbours-push, filter_map-push, latest_of-append, latest_of-option, maximum-append, later_of-none, later_of-comm, later_of-assoc, any_within}

map-append : {A B : Type 0} (f : A → B) (xs ys : List A) → map f (xs ++ ys) ≡ map f xs ++ map f ys
map-append f [] ys = refl
map-append f (x ∷ xs) ys = ap (λ w. f x ∷ w) (map-append f xs ys)

-- the members of the pairs that pass, with one member more
passed-push : {A : Type 0} (p : A × A → Bool) (f : A × A → ℕ) (xs : List A) (y : A)
    → map f (filter p (neighbours (xs ++ y ∷ []))) ≡ map f (filter p (neighbours xs)) ++ map f (filter p (beside (last xs) y))
passed-push p f xs y =
    ap (λ w. map f (filter p w)) (neighbours-push xs y) ∙ ap (map f) (filter-append p (neighbours xs) (beside (last xs) y))
    ∙ map-append f (filter p (neighbours xs)) (filter p (beside (last xs) y))

late_beside : (timeout : ℕ) (o : Option ℕ) (y : ℕ) → map (λ (p : ℕ × ℕ). p.1) (filter (λ (p : ℕ × ℕ). ltb (p.0 + timeout) p.1) (beside o y)) ≡ option_to_list (late_at timeout o y)
late_beside timeout None y = refl
late_beside timeout (Some x) y = pick (ltb (x + timeout) y)
  where
    pick : (b : Bool) → map (λ (p : ℕ × ℕ). p.1) (cond b ((x, y) ∷ []) []) ≡ option_to_list (cond b (Some y) None)
    pick true = refl
    pick false = refl

-- the end that an optional moment brings
abbrev late_part : ℕ → Option ℕ → Option ℕ → Option ℕ
late_part timeout before None = None
late_part timeout before (Some at) = late_at timeout before at

latest_late : (timeout : ℕ) (xs : List ℕ) (o : Option ℕ) → latest_of (late_moments timeout (xs ++ option_to_list o)) ≡ later_of (latest_of (late_moments timeout xs)) (late_part timeout (last xs) o)
latest_late timeout xs None = ap (λ w. latest_of (late_moments timeout w)) (append-nil xs) ∙ sym (later_of-none (latest_of (late_moments timeout xs)))
latest_late timeout xs (Some y) =
    ap latest_of (passed-push (λ p. ltb (p.0 + timeout) p.1) (λ p. p.1) xs y ∙ ap (λ w. late_moments timeout xs ++ w) (late_beside timeout (last xs) y))
    ∙ latest_of-append (late_moments timeout xs) (option_to_list (late_at timeout (last xs) y))
    ∙ ap (later_of (latest_of (late_moments timeout xs))) (latest_of-option (late_at timeout (last xs) y))

late_more : (h : Entry → Option ℕ) (timeout : ℕ) (L : Record) (e : Entry)
    → latest_of (late_moments timeout (filter_map h (L ++ e ∷ []))) ≡ later_of (latest_of (late_moments timeout (filter_map h L))) (late_part timeout (last (filter_map h L)) (h e))
late_more h timeout L e = ap (λ w. latest_of (late_moments timeout w)) (filter_map-push h L e) ∙ latest_late timeout (filter_map h L) (h e)

-- the same for Delay_Resps, whose timeout may not be there
abbrev delay_ends : Option ℕ → Record → List ℕ
delay_ends delay L = unwrap_or (option_map (λ timeout. late_moments timeout (resps L)) delay) []

abbrev delay_part : Option ℕ → Option ℕ → Option ℕ → Option ℕ
delay_part delay before o = unwrap_or (option_map (λ timeout. late_part timeout before o) delay) None

delay_more : (delay : Option ℕ) (L : Record) (e : Entry) → latest_of (delay_ends delay (L ++ e ∷ [])) ≡ later_of (latest_of (delay_ends delay L)) (delay_part delay (last (resps L)) (resp_moment e))
delay_more None L e = refl
delay_more (Some timeout) L e = late_more resp_moment timeout L e

delay_none : (delay before : Option ℕ) → delay_part delay before None ≡ None
delay_none None before = refl
delay_none (Some timeout) before = refl

-- the same for what a judge finds
abbrev cleared_at : Option (ℕ × Bool) → ℕ × Bool → Option ℕ
cleared_at None j = None
cleared_at (Some i) j = cond (i.1 && not j.1) (Some j.0) None

abbrev cleared_part : Option (ℕ × Bool) → Option (ℕ × Bool) → Option ℕ
cleared_part before None = None
cleared_part before (Some j) = cleared_at before j

cleared_beside : (o : Option (ℕ × Bool)) (j : ℕ × Bool) → map (λ (p : (ℕ × Bool) × (ℕ × Bool)). p.1.0) (filter (λ (p : (ℕ × Bool) × (ℕ × Bool)). p.0.1 && not p.1.1) (beside o j)) ≡ option_to_list (cleared_at o j)
cleared_beside None j = refl
cleared_beside (Some i) j = pick (i.1 && not j.1)
  where
    pick : (b : Bool) → map (λ (p : (ℕ × Bool) × (ℕ × Bool)). p.1.0) (cond b ((i, j) ∷ []) []) ≡ option_to_list (cond b (Some j.0) None)
    pick true = refl
    pick false = refl

latest_cleared : (xs : List (ℕ × Bool)) (o : Option (ℕ × Bool)) → latest_of (cleared_moments (xs ++ option_to_list o)) ≡ later_of (latest_of (cleared_moments xs)) (cleared_part (last xs) o)
latest_cleared xs None = ap (λ w. latest_of (cleared_moments w)) (append-nil xs) ∙ sym (later_of-none (latest_of (cleared_moments xs)))
latest_cleared xs (Some j) =
    ap latest_of (passed-push (λ p. p.0.1 && not p.1.1) (λ p. p.1.0) xs j ∙ ap (λ w. cleared_moments xs ++ w) (cleared_beside (last xs) j))
    ∙ latest_of-append (cleared_moments xs) (option_to_list (cleared_at (last xs) j))
    ∙ ap (later_of (latest_of (cleared_moments xs))) (latest_of-option (cleared_at (last xs) j))

cleared_more : (L : Record) (e : Entry) → latest_of (cleared_moments (judgements (L ++ e ∷ []))) ≡ later_of (latest_of (cleared_moments (judgements L))) (cleared_part (last (judgements L)) (judgement e))
cleared_more L e = ap (λ w. latest_of (cleared_moments w)) (filter_map-push judgement L e) ∙ latest_cleared (judgements L) (judgement e)

cleared_now : (o : Option (ℕ × Bool)) (at : ℕ) (now : Bool) → cleared_at o (at, now) ≡ cond (unwrap_or (option_map (λ (j : ℕ × Bool). j.1) o) false && not now) (Some at) None
cleared_now None at now = refl
cleared_now (Some i) at now = refl

-- four lists in a row
four : (a b c d : List ℕ) → latest_of (a ++ b ++ c ++ d) ≡ later_of (later_of (later_of (latest_of a) (latest_of b)) (latest_of c)) (latest_of d)
four a b c d =
    latest_of-append (a ++ b ++ c) d ∙ ap (λ w. later_of w (latest_of d)) (latest_of-append (a ++ b) c ∙ ap (λ w. later_of w (latest_of c)) (latest_of-append a b))

medial : (a p b q : Option ℕ) → later_of (later_of a p) (later_of b q) ≡ later_of (later_of a b) (later_of p q)
medial a p b q =
    later_of-assoc a p (later_of b q) ∙ ap (later_of a) (sym (later_of-assoc p b q) ∙ ap (λ w. later_of w q) (later_of-comm p b) ∙ later_of-assoc b p q) ∙ sym (later_of-assoc a b (later_of p q))

medial_four : (a p b q c r d s : Option ℕ)
    → later_of (later_of (later_of (later_of a p) (later_of b q)) (later_of c r)) (later_of d s) ≡ later_of (later_of (later_of (later_of a b) c) d) (later_of (later_of (later_of p q) r) s)
medial_four a p b q c r d s =
    ap (λ w. later_of (later_of w (later_of c r)) (later_of d s)) (medial a p b q)
    ∙ ap (λ w. later_of w (later_of d s)) (medial (later_of a b) (later_of p q) c r)
    ∙ medial (later_of (later_of a b) c) (later_of (later_of p q) r) d s

-- what the entry brings in all
abbrev brought : Timeouts → Record → Entry → Option ℕ
brought timeouts L e =
    later_of (later_of (later_of (late_part timeouts.announce (last (announces L)) (announce_moment e)) (late_part timeouts.sync (last (syncs L)) (sync_moment e)))
    (delay_part timeouts.delay (last (resps L)) (resp_moment e))) (cleared_part (last (judgements L)) (judgement e))

-- where only one of the four is there
only_first : (timeouts : Timeouts) (before a : Option ℕ) → later_of (later_of (later_of a None) (delay_part timeouts.delay before None)) None ≡ a
only_first timeouts before a = later_of-none _ ∙ ap (later_of (later_of a None)) (delay_none timeouts.delay before) ∙ later_of-none _ ∙ later_of-none a

nothing : (timeouts : Timeouts) (before : Option ℕ) → later_of (delay_part timeouts.delay before None) None ≡ None
nothing timeouts before = later_of-none _ ∙ delay_none timeouts.delay before

brought_is : (timeouts : Timeouts) (L : Record) (e : Entry) → brought timeouts L e ≡ end_at timeouts L e
brought_is timeouts L (Announce at master class) = only_first timeouts (last (resps L)) (late_at timeouts.announce (last (announces L)) at)
brought_is timeouts L (Sync at master number) =
    later_of-none _ ∙ ap (later_of (late_at timeouts.sync (last (syncs L)) at)) (delay_none timeouts.delay (last (resps L))) ∙ later_of-none _
brought_is timeouts L (Resp at master number) = later_of-none _
brought_is timeouts L (Judged at master now) = ap (λ w. later_of w (cleared_at (last (judgements L)) (at, now))) (delay_none timeouts.delay (last (resps L))) ∙ cleared_now (last (judgements L)) at now
brought_is timeouts L (Told at master now) = nothing timeouts (last (resps L))
brought_is timeouts L (Judge at master rule) = nothing timeouts (last (resps L))
brought_is timeouts L (Asked at master kind) = nothing timeouts (last (resps L))
brought_is timeouts L (Granted at master kind seconds) = nothing timeouts (last (resps L))
brought_is timeouts L (Denied at master kind) = nothing timeouts (last (resps L))
brought_is timeouts L (Cancelled at master kind) = nothing timeouts (last (resps L))
brought_is timeouts L (Probed at master) = nothing timeouts (last (resps L))
brought_is timeouts L (Signalled at master) = nothing timeouts (last (resps L))
brought_is timeouts L (Stopped at) = nothing timeouts (last (resps L))
brought_is timeouts L (Event at) = nothing timeouts (last (resps L))

-- one entry more: the last outage end is the later of the former one and the one that the entry brings
pub latest_end_more : (timeouts : Timeouts) (L : Record) (e : Entry)
    → latest_of (outage_ends timeouts (L ++ e ∷ [])) ≡ later_of (latest_of (outage_ends timeouts L)) (end_at timeouts L e)
latest_end_more timeouts L e =
    let A = late_moments timeouts.announce (announces L) in
    let S = late_moments timeouts.sync (syncs L) in
    let R = delay_ends timeouts.delay L in
    let J = cleared_moments (judgements L) in
    four (late_moments timeouts.announce (announces (L ++ e ∷ []))) (late_moments timeouts.sync (syncs (L ++ e ∷ []))) (delay_ends timeouts.delay (L ++ e ∷ [])) (cleared_moments (judgements (L ++ e ∷ [])))
    ∙ ap (λ w. later_of (later_of (later_of w (latest_of (late_moments timeouts.sync (syncs (L ++ e ∷ []))))) (latest_of (delay_ends timeouts.delay (L ++ e ∷ [])))) (latest_of (cleared_moments (judgements (L ++ e ∷ []))))) (late_more announce_moment timeouts.announce L e)
    ∙ ap (λ w. later_of (later_of (later_of (later_of (latest_of A) (late_part timeouts.announce (last (announces L)) (announce_moment e))) w) (latest_of (delay_ends timeouts.delay (L ++ e ∷ [])))) (latest_of (cleared_moments (judgements (L ++ e ∷ []))))) (late_more sync_moment timeouts.sync L e)
    ∙ ap (λ w. later_of (later_of (later_of (later_of (latest_of A) (late_part timeouts.announce (last (announces L)) (announce_moment e))) (later_of (latest_of S) (late_part timeouts.sync (last (syncs L)) (sync_moment e)))) w) (latest_of (cleared_moments (judgements (L ++ e ∷ []))))) (delay_more timeouts.delay L e)
    ∙ ap (λ w. later_of (later_of (later_of (later_of (latest_of A) (late_part timeouts.announce (last (announces L)) (announce_moment e))) (later_of (latest_of S) (late_part timeouts.sync (last (syncs L)) (sync_moment e)))) (later_of (latest_of R) (delay_part timeouts.delay (last (resps L)) (resp_moment e)))) w) (cleared_more L e)
    ∙ medial_four (latest_of A) _ (latest_of S) _ (latest_of R) _ (latest_of J) _
    ∙ ap (λ w. later_of w (brought timeouts L e)) (sym (four A S R J))
    ∙ ap (later_of (latest_of (outage_ends timeouts L))) (brought_is timeouts L e)

-- a master is waiting exactly where the last outage end is less than the wait ago
waiting_of : (wait t : ℕ) (ends : List ℕ) → list_any (λ end. ltb t (end + wait)) ends ≡ is_within wait t (latest_of ends)
waiting_of wait t [] = refl
waiting_of wait t (x ∷ xs) = any_within wait t x xs

pub is_waiting_by_latest : (timeouts : Timeouts) (L : Record) (t : ℕ) → is_waiting timeouts L t ≡ is_within timeouts.wait t (latest_of (outage_ends timeouts L))
is_waiting_by_latest timeouts L t = waiting_of timeouts.wait t (outage_ends timeouts L)

-- a loss stays until a message comes, and a waiting that is over stays over until an outage ends
pub loss_stays : (timeout t u : ℕ) (at : Option ℕ) → t ≤ u → is_lost timeout t at ≡ true → is_lost timeout u at ≡ true
loss_stays timeout t u None le lost = refl
loss_stays timeout t u (Some at) le lost = lt-ltb (at + timeout) u (past (ltb-true (at + timeout) t lost))
  where
    past : at + timeout < t → at + timeout < u
    past lt = omega arith

over_stays : (wait t u : ℕ) (at : Option ℕ) → t ≤ u → is_within wait t at ≡ false → is_within wait u at ≡ false
over_stays wait t u None le over = refl
over_stays wait t u (Some at) le over = le-ltb u (at + wait) (past (ltb-false t (at + wait) over))
  where
    past : at + wait ≤ t → at + wait ≤ u
    past more = omega arith

pub waiting_stays_over : (timeouts : Timeouts) (L : Record) (t u : ℕ) → t ≤ u → is_waiting timeouts L t ≡ false → is_waiting timeouts L u ≡ false
waiting_stays_over timeouts L t u le over =
    is_waiting_by_latest timeouts L u
    ∙ over_stays timeouts.wait t u (latest_of (outage_ends timeouts L)) le (sym (is_waiting_by_latest timeouts L t) ∙ over)

pub is_unusable-push : (L : Record) (e : Entry) → is_unusable (L ++ e ∷ []) ≡ unwrap_or (option_map (λ (j : ℕ × Bool). j.1) (judgement e)) (is_unusable L)
is_unusable-push L e = ap (λ o. unwrap_or (option_map (λ (j : ℕ × Bool). j.1) o) false) (last-filter_map judgement L e) ∙ pick (judgement e)
  where
    pick : (o : Option (ℕ × Bool)) → unwrap_or (option_map (λ (j : ℕ × Bool). j.1) (newest_of o (last (judgements L)))) false ≡ unwrap_or (option_map (λ (j : ℕ × Bool). j.1) o) (is_unusable L)
    pick None = refl
    pick (Some j) = refl

-- ---- moments that do not fall

cond_some : (b : Bool) (at : ℕ) → (cond b (Some at) None ≡ None) ⊎ (cond b (Some at) None ≡ Some at)
cond_some true at = inr refl
cond_some false at = inl refl

late_some : (timeout : ℕ) (o : Option ℕ) (at : ℕ) → (late_at timeout o at ≡ None) ⊎ (late_at timeout o at ≡ Some at)
late_some timeout None at = inl refl
late_some timeout (Some before) at = cond_some (ltb (before + timeout) at) at

-- an outage ends at the moment of the entry
end_at_moment : (timeouts : Timeouts) (L : Record) (e : Entry) → (end_at timeouts L e ≡ None) ⊎ (end_at timeouts L e ≡ Some (moment_of e))
end_at_moment timeouts L (Announce at master class) = late_some timeouts.announce (last (announces L)) at
end_at_moment timeouts L (Sync at master number) = late_some timeouts.sync (last (syncs L)) at
end_at_moment timeouts L (Resp at master number) = delayed timeouts.delay
  where
    delayed : (delay : Option ℕ) → (unwrap_or (option_map (λ timeout. late_at timeout (last (resps L)) at) delay) None ≡ None)
        ⊎ (unwrap_or (option_map (λ timeout. late_at timeout (last (resps L)) at) delay) None ≡ Some at)
    delayed None = inl refl
    delayed (Some timeout) = late_some timeout (last (resps L)) at
end_at_moment timeouts L (Judged at master now) = cond_some (is_unusable L && not now) at
end_at_moment timeouts L (Told at master now) = inl refl
end_at_moment timeouts L (Judge at master rule) = inl refl
end_at_moment timeouts L (Asked at master kind) = inl refl
end_at_moment timeouts L (Granted at master kind seconds) = inl refl
end_at_moment timeouts L (Denied at master kind) = inl refl
end_at_moment timeouts L (Cancelled at master kind) = inl refl
end_at_moment timeouts L (Probed at master) = inl refl
end_at_moment timeouts L (Signalled at master) = inl refl
end_at_moment timeouts L (Stopped at) = inl refl
end_at_moment timeouts L (Event at) = inl refl

-- no outage ends after the greatest moment of the record
pub record IsUpTo (timeouts : Timeouts) (L : Record) : Type 0 where
  pub up_to : unwrap_or (latest_of (outage_ends timeouts L)) 0 ≤ maximum (map moment_of L)

up_to_nil : (timeouts : Timeouts) → IsUpTo timeouts []
up_to_nil timeouts = record { up_to = subst (λ o. unwrap_or o 0 ≤ 0) (sym (none timeouts.delay)) (omega arith) }
  where
    none : (delay : Option ℕ) → latest_of ([] ++ [] ++ unwrap_or (option_map (λ timeout. late_moments timeout []) delay) [] ++ []) ≡ None
    none None = refl
    none (Some timeout) = refl

up_to_push : (timeouts : Timeouts) (L : Record) (e : Entry) → IsUpTo timeouts L → IsUpTo timeouts (L ++ e ∷ [])
up_to_push timeouts L e h = record {
  up_to = subst (λ o. unwrap_or o 0 ≤ maximum (map moment_of (L ++ e ∷ []))) (sym (latest_end_more timeouts L e))
      (joined (latest_of (outage_ends timeouts L)) (end_at timeouts L e) (maximum (map moment_of L)) (maximum (map moment_of (L ++ e ∷ []))) h.up_to (end_at_moment timeouts L e)
      (ap maximum (map-append moment_of L (e ∷ [])) ∙ maximum-append (map moment_of L) (moment_of e ∷ [])));
}
  where
    joined : (a b : Option ℕ) (g n : ℕ) → unwrap_or a 0 ≤ g → (b ≡ None) ⊎ (b ≡ Some (moment_of e)) → n ≡ max g (max (moment_of e) 0) → unwrap_or (later_of a b) 0 ≤ n
    joined a b g n below (inl none) is = rw none (subst (λ o. unwrap_or o 0 ≤ n) (sym (later_of-none a)) (omega arith))
    joined None b g n below (inr some) is = rw some (omega arith)
    joined (Some a) b g n below (inr some) is = rw some (omega arith)

up_to_more : (timeouts : Timeouts) (M L : Record) → IsUpTo timeouts L → IsUpTo timeouts (L ++ M)
up_to_more timeouts [] L h = subst (IsUpTo timeouts) (sym (append-nil L)) h
up_to_more timeouts (e ∷ M) L h = subst (IsUpTo timeouts) (append_assoc L (e ∷ []) M) (up_to_more timeouts M (L ++ e ∷ []) (up_to_push timeouts L e h))

-- an entry that is not before the others brings the greatest end, if it brings one
pub latest_end_in_order : (timeouts : Timeouts) (L : Record) (e : Entry) → maximum (map moment_of L) ≤ moment_of e
    → latest_of (outage_ends timeouts (L ++ e ∷ [])) ≡ newest_of (end_at timeouts L e) (latest_of (outage_ends timeouts L))
latest_end_in_order timeouts L e above =
    latest_end_more timeouts L e
    ∙ newest (latest_of (outage_ends timeouts L)) (end_at timeouts L e) (maximum (map moment_of L)) (up_to_more timeouts L [] (up_to_nil timeouts)).up_to above (end_at_moment timeouts L e)
  where
    newest : (a b : Option ℕ) (g : ℕ) → unwrap_or a 0 ≤ g → g ≤ moment_of e → (b ≡ None) ⊎ (b ≡ Some (moment_of e)) → later_of a b ≡ newest_of b a
    newest a b g below not_before (inl none) = rw none (later_of-none a)
    newest None b g below not_before (inr some) = rw some refl
    newest (Some a) b g below not_before (inr some) = rw some (ap Some (omega arith))
