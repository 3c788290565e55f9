-- When the state of a watch changes without an entry.
use Rattle.std.proofs.Common.{◌≡◌, ◌≢◌, ℕ, Bool, false, ◌<◌, ◌⊎◌, inl, inr, ap, subst, min, arith}
use Rattle.std.specs.Option.{option_map, unwrap_or}
use Rattle.ptu_record.specs.{SignalFails.{is_lost}, OutageEnds.{is_within}}
use Rattle.ptu_select.specs.{Watched.{Watched}, WatchState.{state_of}}
use Rattle.ptu_select.specs.declared.state.WatchState.{WatchState}

abbrev pub announce_lost : Watched → ℕ → Bool
announce_lost w t = is_lost w.timeouts.announce t w.announced

abbrev pub sync_lost : Watched → ℕ → Bool
sync_lost w t = is_lost w.timeouts.sync t w.synced

abbrev pub delay_lost : Watched → ℕ → Bool
delay_lost w t = unwrap_or (option_map (λ timeout. is_lost timeout t w.responded) w.timeouts.delay) false

abbrev pub awaited : Watched → ℕ → Bool
awaited w t = is_within w.timeouts.wait t w.ended

-- where nothing is lost or awaited otherwise, the state is the same
pub state_alike : (w : Watched) (x t : ℕ) → announce_lost w x ≡ announce_lost w t → sync_lost w x ≡ sync_lost w t → delay_lost w x ≡ delay_lost w t → awaited w x ≡ awaited w t
    → state_of w x ≡ state_of w t
state_alike w x t announce sync delay wait = alike announce sync delay wait
  where
    found : Bool → Bool → Bool → Bool → WatchState
    found a b c d = record { loss_announce = a; loss_sync = b; loss_delay = c; unusable = w.unusable; waiting = d; quality = w.quality }

    alike : {a a' b b' c c' d d' : Bool} → a ≡ a' → b ≡ b' → c ≡ c' → d ≡ d' → found a b c d ≡ found a' b' c' d'
    alike e f g h = cc

-- the least of four is one of them
pub least_is : (a b c d r : ℕ) → r ≡ min (min a b) (min c d) → (r ≡ a) ⊎ (r ≡ b) ⊎ (r ≡ c) ⊎ (r ≡ d)
least_is a b c d r e = grind arith

-- the state is another one where one of the four is
pub state_differs : (w : Watched) (a b c d r t high : ℕ) → r ≡ min (min a b) (min c d)
    → (a < high → announce_lost w a ≢ announce_lost w t) → (b < high → sync_lost w b ≢ sync_lost w t) → (c < high → delay_lost w c ≢ delay_lost w t)
    → (d < high → awaited w d ≢ awaited w t) → r < high → state_of w r ≢ state_of w t
state_differs w a b c d r t high least announce sync delay wait below same = pick (least_is a b c d r least)
  where
    pick : (r ≡ a) ⊎ (r ≡ b) ⊎ (r ≡ c) ⊎ (r ≡ d) → ⊥
    pick (inl e) = announce (subst (λ n. n < high) e below) (subst (λ n. announce_lost w n ≡ announce_lost w t) e (ap (λ s. s.loss_announce) same))
    pick (inr (inl e)) = sync (subst (λ n. n < high) e below) (subst (λ n. sync_lost w n ≡ sync_lost w t) e (ap (λ s. s.loss_sync) same))
    pick (inr (inr (inl e))) = delay (subst (λ n. n < high) e below) (subst (λ n. delay_lost w n ≡ delay_lost w t) e (ap (λ s. s.loss_delay) same))
    pick (inr (inr (inr e))) = wait (subst (λ n. n < high) e below) (subst (λ n. awaited w n ≡ awaited w t) e (ap (λ s. s.waiting) same))
