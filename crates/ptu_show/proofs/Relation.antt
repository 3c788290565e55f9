-- The half that one joins with, as a relation, and what two steps of a Sync come to.
use Rattle.std.proofs.Common.{◌≡◌, ◌∙◌, ◌+◌, ◌-◌, ◌^◌, ◌&&◌, ◌++◌, Bool, true, false, pos, List, [], ◌∷◌, Option, Some, None, refl, sym, ap, ap₂, subst, arith}
use Rattle.std.specs.{List.{AllByRecursion}, Option.{unwrap_or}}
use Rattle.std.specs.Prelude.{if◌then◌else◌, is_none, is_some}
use Rattle.std.proofs.lemmas.Bool.{true≢false}
use Rattle.ptu_units.specs.declared.stamp.Stamp.{Stamp}
use Rattle.ptu_messages.specs.declared.header.Header.{Header}
use Rattle.ptu_messages.specs.declared.message.Body.TheVariants as bodies
use Rattle.ptu_show.specs.declared.half.{Half.{Half}, Part.TheVariants.{Sync, FollowUp}}
use Rattle.ptu_show.specs.{Halves.{is_other, key_of, same_key, joined_sync}, Joins.{JoinsWith, partner}}

nothing : {A : Type 0} {x : A} → None ≡ Some x → ⊥
nothing e = true≢false (sym (ap is_some e))

pub found : (halves : List Half) (half before : Half) → partner halves half ≡ Some before → JoinsWith halves half before
found [] half before e = absurd (nothing e)
found (x ∷ earlier) half before e = at (same_key (key_of x) (key_of half)) refl (partner earlier x) refl (is_other x.part half.part) refl e (found earlier half before)
  where
    at : (same : Bool) → same_key (key_of x) (key_of half) ≡ same → (p : Option Half) → partner earlier x ≡ p → (o : Bool) → is_other x.part half.part ≡ o
        → (if same then (if is_none p && o then Some x else None) else partner earlier half) ≡ Some before
        → (partner earlier half ≡ Some before → JoinsWith earlier half before) → JoinsWith (x ∷ earlier) half before
    at true s None w true o e more =
        subst (λ b. JoinsWith (x ∷ earlier) half b) (ap (λ v. unwrap_or v x) e)
        (record { between = []; earlier = earlier; stands = refl; apart = tt; own = s; waits = w; other = o })
    at true s None w false o e more = absurd (nothing e)
    at true s (Some y) w o is e more = absurd (nothing e)
    at false s p w o is e more =
        let r = more e in
        record {
          between = x ∷ r.between;
          earlier = r.earlier;
          stands = ap (λ l. x ∷ l) r.stands;
          apart = (s, r.apart);
          own = r.own;
          waits = r.waits;
          other = r.other;
        }

behind : (between earlier : List Half) (half before : Half) → AllByRecursion (λ other. same_key (key_of other) (key_of half) ≡ false) between
    → same_key (key_of before) (key_of half) ≡ true → partner earlier before ≡ None → is_other before.part half.part ≡ true
    → partner (between ++ before ∷ earlier) half ≡ Some before
behind [] earlier half before apart own waits other =
    ap (λ b. if b then (if is_none (partner earlier before) && is_other before.part half.part then Some before else None) else partner earlier half) own
    ∙ ap₂ (λ p o. if is_none p && o then Some before else None) waits other
behind (x ∷ between) earlier half before apart own waits other =
    ap (λ b. if b then (if is_none (partner (between ++ before ∷ earlier) x) && is_other x.part half.part then Some x else None) else partner (between ++ before ∷ earlier) half) apart.0
    ∙ behind between earlier half before apart.1 own waits other

pub joins : (halves : List Half) (half before : Half) → JoinsWith halves half before → partner halves half ≡ Some before
joins halves half before r =
    ap (λ l. partner l half) r.stands ∙ behind r.between r.earlier half before r.apart r.own r.waits r.other

pub undone : (header : Header) (sent stamp : Stamp) → header.correction ≡ pos 0
    → joined_sync (record { part = Sync; header = record header { flags = header.flags + 2 ^ 9 }; stamp = sent }) (record { part = FollowUp; header = record header { message_type = 8 }; stamp = stamp })
    ≡ Some (record { header = header; body = bodies.Sync stamp })
undone header sent stamp none =
    let back : (header.flags + 2 ^ 9) - 2 ^ 9 ≡ header.flags = omega arith in
    ap (λ z. joined_sync (record { part = Sync; header = record header { flags = header.flags + 2 ^ 9; correction = z }; stamp = sent }) (record { part = FollowUp; header = record header { message_type = 8; correction = z }; stamp = stamp })) none
    ∙ ap₂ (λ f z. Some (record { header = record header { flags = f; correction = z }; body = bodies.Sync stamp })) back (sym none)
