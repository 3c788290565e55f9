-- For how long a master is not to be asked.
use Rattle.std.proofs.Common.{◌≡◌, ℕ, ◌+◌, ◌*◌, ◌<◌, ◌≤◌, max, Bool, true, false, ◌&&◌, cond, [], Option, Some, None, refl, subst, sym, arith}
use Rattle.std.proofs.lemmas.Bool.{lt-leb, ltb-false, ltb-true}
use Rattle.std.specs.Option.{is_some, option_map, unwrap_or}
use Rattle.ptu_units.specs.declared.kind.{Kind.{Kind}, Kind.TheVariants.{Announce, Sync, DelayResp}}
use Rattle.ptu_record.specs.{declared.wants.Wants.{Wants}, Record.{Record}, Grants.{grant, is_live_at}}
use Rattle.ptu_record.specs.Asks.{ask_gate, due_kinds, gate, is_due, refusal_gate}
use Rattle.ptu_requester.proofs.Gates.{greatest_of_three}

-- half of the grant, where it is live
abbrev half : Option (ℕ × ℕ) → ℕ → ℕ
half o t = unwrap_or (cond (is_live_at o t) (option_map (λ (g : ℕ × ℕ). g.0 + g.1 * 500000000) o) None) 0

-- what is not due yet is not so later, up to the same gate: a grant ends after half of it
half_ahead : (o : Option (ℕ × ℕ)) (n t x : ℕ) → t ≤ x → x < max n (half o t) → x < max n (half o x)
half_ahead None n t x le lt = lt
half_ahead (Some g) n t x le lt = by (is_live_at (Some g) t) refl (is_live_at (Some g) x) refl lt
  where
    at : Bool → ℕ
    at live = unwrap_or (cond live (Some (g.0 + g.1 * 500000000)) None) 0

    by : (b : Bool) → is_live_at (Some g) t ≡ b → (c : Bool) → is_live_at (Some g) x ≡ c → x < max n (at b) → x < max n (at c)
    by true is true later lt = lt
    by true is false later lt = omega (arith, lt, ltb-false x (g.0 + g.1 * 1000000000) later)
    by false is true later lt = absurd (omega (arith, le, ltb-false t (g.0 + g.1 * 1000000000) is, ltb-true x (g.0 + g.1 * 1000000000) later))
    by false is false later lt = lt

pub not_due : (k : Kind) (L : Record) (t x : ℕ) → t ≤ x → x < gate k L t → is_due k L x ≡ false
not_due k L t x le lt =
    lt-leb (gate k L x) x (subst (λ n. x < n) (three x) (half_ahead (grant k L) others t x le (subst (λ n. x < n) (sym (three t)) lt)))
  where
    others : ℕ
    others = max (unwrap_or (ask_gate k L) 0) (unwrap_or (refusal_gate k L) 0)

    three : (y : ℕ) → max others (half (grant k L) y) ≡ gate k L y
    three y = greatest_of_three (ask_gate k L) (refusal_gate k L) _

-- where no kind is due, none is asked for
pub none_due : (wants : Wants) (L : Record) (x : ℕ) → is_due Announce L x ≡ false → is_due Sync L x ≡ false
    → (is_some wants.delay && is_due DelayResp L x) ≡ false → due_kinds wants L x ≡ []
none_due wants L x announce sync delay = pick wants.delay delay
  where
    pick : (o : _) → (is_some o && is_due DelayResp L x) ≡ false → due_kinds (record wants { delay = o }) L x ≡ []
    pick None is = simp (announce, sync)
    pick (Some log) is = simp (announce, sync, is)
