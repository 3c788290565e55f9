-- One round more, behind those that were done.
use Rattle.std.proofs.Common.{◌≡◌, ◌∙◌, ℕ, suc, zero, ◌+◌, ◌≤◌, Bool, true, false, List, [], ◌∷◌, ◌++◌, flat_map, length, refl, sym, ap, subst, arith, append_assoc}
use Rattle.std.proofs.lemmas.List.{append-nil}
use Rattle.std.specs.List.{AllByRecursion}
use Rattle.ptu_profile.specs.declared.grandmaster.GmConfig.{GmConfig}
use Rattle.ptu_config.specs.declared.settings.GmSettings.{GmSettings}
use Rattle.ptu_lanes.specs.Orders.{AreAllBy, AreEach, EndsOr, LaneAt, LaneRound, at_after, at_next, lane_moments, lane_sends, round_moments, round_sends}

-- ---- lists of any rounds

pub flat_push : {A B : Type 0} (f : A → List B) (xs : List A) (x : A) → flat_map f (xs ++ x ∷ []) ≡ flat_map f xs ++ f x
flat_push f [] x = append-nil (f x)
flat_push f (y ∷ xs) x = ap (λ l. f y ++ l) (flat_push f xs x) ∙ sym (append_assoc (f y) (flat_map f xs) (f x))

-- none of them is told to be the last one
abbrev pub NoneEnds : {A : Type 0} → (A → Bool) → List A → Type 0
NoneEnds is_last rs = AllByRecursion (λ r. is_last r ≡ false) rs

pub none_ends-push : {A : Type 0} (is_last : A → Bool) (rs : List A) (r : A) → NoneEnds is_last rs → is_last r ≡ false → NoneEnds is_last (rs ++ r ∷ [])
none_ends-push is_last [] r h one = (one, tt)
none_ends-push is_last (x ∷ rs) r (a, h) one = (a, none_ends-push is_last rs r h one)

pub none_ended : {A : Type 0} (is_last : A → Bool) (rs : List A) → NoneEnds is_last rs → AreAllBy is_last (length rs) rs
none_ended is_last [] h = refl
none_ended is_last (x ∷ rs) (a, h) = subst (λ b. EndsOr b rs (AreAllBy is_last (length rs) rs)) (sym a) (none_ended is_last rs h)

pub last_ends : {A : Type 0} (is_last : A → Bool) (rs : List A) (r : A) (count : ℕ) → NoneEnds is_last rs → is_last r ≡ true → length rs + 1 ≤ count →
    AreAllBy is_last count (rs ++ r ∷ [])
last_ends is_last [] r zero h last le = absurd (omega (arith, le))
last_ends {A} is_last [] r (suc count) h last le = subst (λ b. EndsOr {A = A} b [] (AreAllBy is_last count [])) (sym last) refl
last_ends is_last (x ∷ rs) r zero h last le = absurd (omega (arith, le))
last_ends is_last (x ∷ rs) r (suc count) (a, h) last le =
    subst (λ b. EndsOr b (rs ++ r ∷ []) (AreAllBy is_last count (rs ++ r ∷ []))) (sym a) (last_ends is_last rs r count h last (omega (arith, le)))

-- ---- rounds of the lane that takes Signaling

module _ (settings : GmSettings) where
  pub at_after-push : (at : LaneAt) (rs : List LaneRound) (r : LaneRound) → at_after settings at (rs ++ r ∷ []) ≡ at_next settings (at_after settings at rs) r
  at_after-push at [] r = refl
  at_after-push at (x ∷ rs) r = at_after-push (at_next settings at x) rs r

  pub before_after : (at : LaneAt) (rs : List LaneRound) → (at_after settings at rs).before ≡ at.before + length rs
  before_after at [] = omega arith
  before_after at (x ∷ rs) = let ih = before_after (at_next settings at x) rs in omega (arith, ih)

  pub are_each-push : (is : LaneAt → LaneRound → Type 0) (at : LaneAt) (rs : List LaneRound) (r : LaneRound) → AreEach settings is at rs → is (at_after settings at rs) r →
      AreEach settings is at (rs ++ r ∷ [])
  are_each-push is at [] r h one = (one, tt)
  are_each-push is at (x ∷ rs) r (a, h) one = (a, are_each-push is (at_next settings at x) rs r h one)

  pub lane_sends-push : (config : GmConfig) (at : LaneAt) (rs : List LaneRound) (r : LaneRound) →
      lane_sends settings config at (rs ++ r ∷ []) ≡ lane_sends settings config at rs ++ round_sends config (at_after settings at rs) r
  unfolding lane_sends
  lane_sends-push config at [] r = append-nil (round_sends config at r)
  lane_sends-push config at (x ∷ rs) r =
      ap (λ l. round_sends config at x ++ l) (lane_sends-push config (at_next settings at x) rs r)
      ∙ sym (append_assoc (round_sends config at x) (lane_sends settings config (at_next settings at x) rs) (round_sends config (at_after settings (at_next settings at x) rs) r))

  pub lane_moments-push : (at : LaneAt) (rs : List LaneRound) (r : LaneRound) →
      lane_moments settings at (rs ++ r ∷ []) ≡ lane_moments settings at rs + round_moments settings (at_after settings at rs) r
  unfolding lane_moments
  lane_moments-push at [] r = omega arith
  lane_moments-push at (x ∷ rs) r = let ih = lane_moments-push (at_next settings at x) rs r in omega (arith, ih)
