-- What is kept of one kind at one master, with one entry of its record more.
use Rattle.std.proofs.Common.{◌≡◌, ℕ, ◌+◌, ◌%◌, ◌<◌, ◌≤◌, ◌⊎◌, Bool, false, cond, [], ◌∷◌, ◌++◌, Option, Some, None, refl, ap, sym, ◌∙◌, arith, inl, inr, length}
use Rattle.std.specs.Option.{is_some, option_map, unwrap_or}
use Rattle.ptu_units.specs.declared.kind.Kind.{Kind}
use Rattle.ptu_record.specs.Lists.{newest_of}
use Rattle.ptu_record.specs.Record.{Entry, Record, Asked, Granted, Denied, Cancelled}
use Rattle.ptu_record.specs.{Wants.{is_kind}, Grants.{grant_change, is_live, run_start}}
use Rattle.ptu_record.specs.Asks.{ask_moment, is_answer, refusal_moment, open_asks}
use Rattle.ptu_record.specs.Kept.{KindState, kind_state_after}
use Rattle.ptu_record.proofs.Requests.{is_kind-self, run_granted, run_kept}
use Rattle.ptu_record.proofs.KindStates.{kind_state-push}
use Rattle.ptu_requester.specs.declared.negotiation.Change.{Change}
use Rattle.ptu_requester.specs.declared.negotiation.Change.TheVariants.{Ask, Grant, Denial, Cancel}
use Rattle.ptu_requester.specs.declared.negotiation.{Negotiation.{Negotiation}, Term.{Term}}
use Rattle.ptu_requester.specs.Negotiation.{IsKept, entry_of, state_of, term_of}

pub kept_third : (k : Kind) (L : Record) (n : Negotiation) → IsKept k L n → n.unanswered ≡ length (open_asks k L) % 3
kept_third k L n h = ap (λ s. s.unanswered) h.state

-- what is kept with one entry more
entered : (k : Kind) (L : Record) (e : Entry) (n new : Negotiation) → state_of new ≡ kind_state_after k (state_of n) e → new.run_start ≡ run_start k (L ++ e ∷ [])
    → IsKept k L n → IsKept k (L ++ e ∷ []) new
entered k L e n new state run h = record {
  state = state ∙ ap (λ s. kind_state_after k s e) h.state ∙ sym (kind_state-push k L e);
  run_start = run;
}

pub kept_asked : (k : Kind) (L : Record) (at m : ℕ) (n : Negotiation) (asks : ℕ) → ((n.unanswered < 2) × (asks ≡ n.unanswered + 1)) ⊎ ((2 ≤ n.unanswered) × (asks ≡ 0))
    → IsKept k L n → IsKept k (L ++ Asked at m k ∷ []) (record n { asked = Some at; unanswered = asks })
kept_asked k L at m n asks next h =
    entered k L (Asked at m k) n (record n { asked = Some at; unanswered = asks })
    (ap counted (third n.unanswered asks (length (open_asks k L)) next (kept_third k L n h)) ∙ sym (ap after (is_kind-self k)))
    (h.run_start ∙ sym (run_kept k L (Asked at m k) refl)) h
  where
    third : (old new count : ℕ) → ((old < 2) × (new ≡ old + 1)) ⊎ ((2 ≤ old) × (new ≡ 0)) → old ≡ count % 3 → new ≡ (old + 1) % 3
    third old new count (inl h) is = omega arith
    third old new count (inr h) is = omega arith

    counted : ℕ → KindState
    counted count = record { unanswered = count; asked = Some at; refused = n.refused; granted = option_map term_of n.granted }

    after : Bool → KindState
    after b = record {
      unanswered = (n.unanswered + cond (is_some (cond b (Some at) None)) 1 0) % 3;
      asked = newest_of (cond b (Some at) None) n.asked;
      refused = n.refused;
      granted = option_map term_of n.granted;
    }

pub kept_granted : (k : Kind) (L : Record) (at m seconds : ℕ) (n : Negotiation) (term : Term) (start : Option ℕ) → term_of term ≡ (at, seconds)
    → start ≡ cond (is_live k L at) n.run_start (Some at)
    → IsKept k L n → IsKept k (L ++ Granted at m k seconds ∷ []) (record n { asked = None; unanswered = 0; granted = Some term; run_start = start })
kept_granted k L at m seconds n term start given begun h =
    entered k L (Granted at m k seconds) n (record n { asked = None; unanswered = 0; granted = Some term; run_start = start })
    (ap with_term given ∙ sym (ap after (is_kind-self k)))
    (begun ∙ ap (λ o. cond (is_live k L at) o (Some at)) h.run_start ∙ sym (run_granted k L at m seconds)) h
  where
    with_term : ℕ × ℕ → KindState
    with_term g = record { unanswered = 0; asked = None; refused = n.refused; granted = Some g }

    after : Bool → KindState
    after b = record {
      unanswered = cond b 0 ((n.unanswered + 0) % 3);
      asked = cond b None n.asked;
      refused = n.refused;
      granted = unwrap_or (cond b (Some (Some (at, seconds))) None) (option_map term_of n.granted);
    }

-- a kind that was refused at a moment, or not, where it is granted this
abbrev refused_at : Negotiation → ℕ → (Bool → Option (ℕ × ℕ)) → Bool → KindState
refused_at n at granted b = record {
  unanswered = cond b 0 ((n.unanswered + 0) % 3);
  asked = cond b None n.asked;
  refused = newest_of (cond b (Some at) None) n.refused;
  granted = granted b;
}

pub kept_denied : (k : Kind) (L : Record) (at m : ℕ) (n : Negotiation)
    → IsKept k L n → IsKept k (L ++ Denied at m k ∷ []) (record n { asked = None; unanswered = 0; refused = Some at })
kept_denied k L at m n h =
    entered k L (Denied at m k) n (record n { asked = None; unanswered = 0; refused = Some at })
    (sym (ap (refused_at n at (λ b. option_map term_of n.granted)) (is_kind-self k)))
    (h.run_start ∙ sym (run_kept k L (Denied at m k) refl)) h

pub kept_cancelled : (k : Kind) (L : Record) (at m : ℕ) (n : Negotiation)
    → IsKept k L n → IsKept k (L ++ Cancelled at m k ∷ []) (record n { asked = None; unanswered = 0; refused = Some at; granted = None })
kept_cancelled k L at m n h =
    entered k L (Cancelled at m k) n (record n { asked = None; unanswered = 0; refused = Some at; granted = None })
    (sym (ap (refused_at n at (λ b. unwrap_or (cond b (Some None) None) (option_map term_of n.granted))) (is_kind-self k)))
    (h.run_start ∙ sym (run_kept k L (Cancelled at m k) (ap (λ b. unwrap_or (cond b (Some None) None) None) (is_kind-self k)))) h

-- what an entry leaves that says nothing of the kind
pub record SaysNothing (k : Kind) (e : Entry) : Type 0 where
  pub no_change : grant_change k e ≡ None
  pub no_answer : is_answer k e ≡ false
  pub no_ask : ask_moment k e ≡ None
  pub no_refusal : refusal_moment k e ≡ None

pub kept_beside : (k : Kind) (L : Record) (e : Entry) (n : Negotiation) → SaysNothing k e → IsKept k L n → IsKept k (L ++ e ∷ []) n
kept_beside k L e n says h =
    entered k L e n n
    (ap counted (third n.unanswered (length (open_asks k L)) (kept_third k L n h)) ∙ sym (
    ap (λ a. after a (ask_moment k e) (refusal_moment k e) (grant_change k e)) says.no_answer
    ∙ ap (λ o. after false o (refusal_moment k e) (grant_change k e)) says.no_ask
    ∙ ap (λ r. after false None r (grant_change k e)) says.no_refusal ∙ ap (after false None None) says.no_change))
    (h.run_start ∙ sym (run_kept k L e (ap (λ o. unwrap_or o None) says.no_change))) h
  where
    third : (old count : ℕ) → old ≡ count % 3 → old ≡ (old + 0) % 3
    third old count is = omega arith

    counted : ℕ → KindState
    counted count = record { unanswered = count; asked = n.asked; refused = n.refused; granted = option_map term_of n.granted }

    after : Bool → Option ℕ → Option ℕ → Option (Option (ℕ × ℕ)) → KindState
    after answers ask refusal change = record {
      unanswered = cond answers 0 ((n.unanswered + cond (is_some ask) 1 0) % 3);
      asked = cond answers None (newest_of ask n.asked);
      refused = newest_of refusal n.refused;
      granted = unwrap_or change (option_map term_of n.granted);
    }

-- what happens to one kind says nothing of another
pub kept_other_kind : (j k : Kind) (L : Record) (change : Change) (at m : ℕ) (n : Negotiation) → is_kind j k ≡ false → IsKept j L n → IsKept j (L ++ entry_of change at m k ∷ []) n
kept_other_kind j k L change at m n other = kept_beside j L (entry_of change at m k) n (says change)
  where
    says : (change : Change) → SaysNothing j (entry_of change at m k)
    says Ask = record { no_change = refl; no_answer = refl; no_ask = ap (λ b. cond b (Some at) None) other; no_refusal = refl }
    says (Grant seconds) = record { no_change = ap (λ b. cond b (Some (Some (at, seconds))) None) other; no_answer = other; no_ask = refl; no_refusal = refl }
    says Denial = record { no_change = refl; no_answer = other; no_ask = refl; no_refusal = ap (λ b. cond b (Some at) None) other }
    says Cancel = record { no_change = ap (λ b. cond b (Some None) None) other; no_answer = other; no_ask = refl; no_refusal = ap (λ b. cond b (Some at) None) other }
