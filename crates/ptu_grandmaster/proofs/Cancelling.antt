-- CANCELs that are handed over one after the other.
use Rattle.std.proofs.Common.{◌≡◌, ℕ, ◌+◌, ◌%◌, ◌<◌, ◌++◌, List, [], ◌∷◌, length, refl, sym, ap, subst, ◌∙◌, arith}
use Rattle.std.proofs.lemmas.List.{length-map, map-append}
use Rattle.ptu_units.specs.declared.{client.Client.{Client}, kind.Kind.{Kind}}
use Rattle.ptu_outside.specs.{declared.port.Port.{Ghosts as Ports}, HandsOver.{HandsOver}}
use Rattle.ptu_outside.proofs.HandsOver.{hands-append, hands_none}
use Rattle.ptu_profile.specs.declared.grandmaster.GmConfig.{GmConfig}
use Rattle.ptu_admit.specs.declared.shed_list.Shed.{Shed}
use Rattle.ptu_gm_messages.specs.Replies.{cancel_to, cancels_to}
use Rattle.ptu_grandmaster.specs.Changed.{leases_shed}

pub cancels_to-push : (config : GmConfig) (n : ℕ) (xs : List (Client × Kind)) (x : Client × Kind) →
    cancels_to config n (xs ++ x ∷ []) ≡ cancels_to config n xs ++ cancel_to config x.0 x.1 ((n + length xs) % 65536) ∷ []
cancels_to-push config n [] x = ap (λ k. cancel_to config x.0 x.1 (k % 65536) ∷ []) (let e : n ≡ n + 0 = omega arith in e)
cancels_to-push config n (y ∷ xs) x =
    ap (λ ds. cancel_to config y.0 y.1 (n % 65536) ∷ ds) (cancels_to-push config (n + 1) xs x
    ∙ ap (λ k. cancels_to config (n + 1) xs ++ cancel_to config x.0 x.1 (k % 65536) ∷ []) (let e : n + 1 + length xs ≡ n + length (y ∷ xs) = omega arith in e))

length-cancels_to : (config : GmConfig) (n : ℕ) (xs : List (Client × Kind)) → length (cancels_to config n xs) ≡ length xs
length-cancels_to config n [] = refl
length-cancels_to config n (x ∷ xs) = let h = length-cancels_to config (n + 1) xs in omega arith

pub length-cancels : (config : GmConfig) (n : ℕ) (shed : List Shed) → length (cancels_to config n (leases_shed shed)) ≡ length shed
length-cancels config n shed = length-cancels_to config n (leases_shed shed) ∙ length-map shed (λ s. (s.client, s.kind))

pub one_cancel : (config : GmConfig) (n : ℕ) (shed : List Shed) (s : Shed) (sequence : ℕ) → sequence ≡ (n + length shed) % 65536 →
    cancels_to config n (leases_shed (shed ++ s ∷ [])) ≡ cancels_to config n (leases_shed shed) ++ cancel_to config s.client s.kind sequence ∷ []
one_cancel config n shed s sequence e =
    ap (cancels_to config n) (map-append (λ (s : Shed). (s.client, s.kind)) shed (s ∷ []))
    ∙ cancels_to-push config n (leases_shed shed) (s.client, s.kind)
    ∙ ap (λ k. cancels_to config n (leases_shed shed) ++ cancel_to config s.client s.kind k ∷ [])
    (ap (λ k. (n + k) % 65536) (length-map shed (λ s. (s.client, s.kind))) ∙ sym e)

-- so many of the CANCELs were handed over
pub record Cancels {P : Type 0} (ports : Ports P) (config : GmConfig) (first : ℕ) (done : List Shed) (old new : P) (sequence sent failed : ℕ) : Type 0 where
  pub sends : HandsOver ports old new (cancels_to config first (leases_shed done)) sent failed
  pub sequence_is : sequence ≡ (first + length done) % 65536

length-push : (xs : List Shed) (x : Shed) → length (xs ++ x ∷ []) ≡ length xs + 1
length-push [] x = refl
length-push (y ∷ xs) x = let h = length-push xs x in omega arith

mod_next : (a b : ℕ) → b ≡ a % 65536 → (b + 1) % 65536 ≡ (a + 1) % 65536
mod_next a b e = omega arith

next_sequence : (first sequence : ℕ) (done : List Shed) (s : Shed) → sequence ≡ (first + length done) % 65536 → (sequence + 1) % 65536 ≡ (first + length (done ++ s ∷ [])) % 65536
next_sequence first sequence done s e =
    mod_next (first + length done) sequence e
    ∙ ap (λ n. n % 65536) (let l = length-push done s in let m : first + length done + 1 ≡ first + length (done ++ s ∷ []) = omega arith in m)

module _ {P : Type 0} (ports : Ports P) (config : GmConfig) (first : ℕ) where
  pub no_cancels : (port : P) → first < 65536 → Cancels ports config first [] port port first 0 0
  no_cancels port lt = record { sends = hands_none ports port; sequence_is = let e : first ≡ (first + 0) % 65536 = omega arith in e }

  -- one CANCEL more
  pub cancels_more : (done : List Shed) (s : Shed) (old now new : P) (sequence sent failed more worse : ℕ) → Cancels ports config first done old now sequence sent failed
      → HandsOver ports now new (cancel_to config s.client s.kind sequence ∷ []) more worse
      → Cancels ports config first (done ++ s ∷ []) old new ((sequence + 1) % 65536) (sent + more) (failed + worse)
  cancels_more done s old now new sequence sent failed more worse c one = record {
    sends = subst (λ ds. HandsOver ports old new ds (sent + more) (failed + worse)) (sym (one_cancel config first done s sequence c.sequence_is))
        (hands-append ports old now new (cancels_to config first (leases_shed done)) (cancel_to config s.client s.kind sequence ∷ []) sent failed more worse c.sends one);
    sequence_is = next_sequence first sequence done s c.sequence_is;
  }

  -- as many as there are grants that were shed
  pub cancels_many : (done : List Shed) (old new : P) (sequence sent failed : ℕ) → Cancels ports config first done old new sequence sent failed → sent + failed ≡ length done
  cancels_many done old new sequence sent failed c = c.sends.each ∙ length-cancels config first done
