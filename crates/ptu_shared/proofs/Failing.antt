-- Failed calls of a port, some after others.
use Rattle.std.proofs.Common.{List, ◌≡◌, ◌∙◌, inl, inr, ℕ, ◌+◌, ◌-◌, ◌^◌, ◌≤◌, ◌<◌, min, Bool, true, refl, arith}
use Rattle.std.specs.Prelude.{false, nat_le}
use Rattle.std.proofs.lemmas.Bool.Decides.{nat_tests}
use Rattle.ptu_outside.specs.{declared.port.Port.{Ghosts as Ports}, Departure.{Departure}}
use Rattle.ptu_outside.specs.{Faults.{HasRisenBy, HasRisenJust}, HandsOver.{HandsOver}}
use Rattle.ptu_outside.proofs.HandsOver.{just_both, not_fallen_both, not_fallen_none, risen_both}
use Rattle.ptu_shared.specs.Opening.{AreCounted, HaveFailed}

pub failed_none : (once : Bool) (count : ℕ) → HaveFailed once 0 count count
failed_none once count = record {
  risen = inl (omega arith);
  just = λ is. inl (omega arith);
  quiet = λ none. refl;
  no_fall = not_fallen_none count;
}

pub failed-append : (once : Bool) (f g old now new : ℕ) → HaveFailed once f old now → HaveFailed once g now new → HaveFailed once (f + g) old new
failed-append once f g old now new a b = record {
  risen = risen_both old now new f g a.risen b.risen b.no_fall;
  just = λ is. just_both old now new f g (a.just is) (b.just is) b.no_fall;
  quiet = λ none. b.quiet (omega (arith, none)) ∙ a.quiet (omega (arith, none));
  no_fall = not_fallen_both old now new a.no_fall b.no_fall;
}

-- of datagrams that were handed to a port
pub failed_hands : {P : Type 0} (ports : Ports P) (old new : P) (datagrams : List Departure) (sent failed : ℕ) → HandsOver ports old new datagrams sent failed →
    HaveFailed ports.counts_once failed (ports.faults old) (ports.faults new)
failed_hands ports old new datagrams sent failed h = record { risen = h.risen; just = h.just; quiet = h.quiet; no_fall = h.no_fall }

-- a number that stands at its end counts no more
risen_bounded : (n old new : ℕ) → HasRisenBy n old new → HasRisenBy (min n (2 ^ 64 - 1)) old new
risen_bounded n old new (inl le) = inl (omega arith)
risen_bounded n old new (inr end) = inr end

just_bounded : (n old new : ℕ) → HasRisenJust n old new → HasRisenJust (min n (2 ^ 64 - 1)) old new
just_bounded n old new (inr end) = inr end
just_bounded n old new (inl is) = at (nat_le n (2 ^ 64 - 1)) refl
  where
    at : (b : Bool) → nat_le n (2 ^ 64 - 1) ≡ b → HasRisenJust (min n (2 ^ 64 - 1)) old new
    at true test = let le : n ≤ 2 ^ 64 - 1 = grind (arith, nat_tests) in inl (omega arith)
    at false test = let gt : 2 ^ 64 - 1 < n = grind (arith, nat_tests) in inr (omega arith)

pub failed_bounded : (once : Bool) (n old new : ℕ) → HaveFailed once n old new → HaveFailed once (min n (2 ^ 64 - 1)) old new
failed_bounded once n old new h = record {
  risen = risen_bounded n old new h.risen;
  just = λ is. just_bounded n old new (h.just is);
  quiet = λ none. h.quiet (omega (arith, none));
  no_fall = h.no_fall;
}

-- ---- in the form that a type keeps

pub counted_of : (once : Bool) (n old new : ℕ) → HaveFailed once n old new → AreCounted once n old new
counted_of once n old new h = record {
  risen = risen h.risen;
  just = λ is below. just below (h.just is);
  quiet = h.quiet;
  no_fall = h.no_fall.0;
  stands = h.no_fall.1;
}
  where
    risen : HasRisenBy n old new → min (old + n) (2 ^ 64 - 1) ≤ new
    risen (inl le) = omega arith
    risen (inr end) = omega arith

    just : new < 2 ^ 64 - 1 → HasRisenJust n old new → new ≡ old + n
    just below (inl is) = is
    just below (inr end) = absurd (omega arith)

pub failed_of : (once : Bool) (n old new : ℕ) → AreCounted once n old new → HaveFailed once n old new
failed_of once n old new h = at (nat_le (2 ^ 64 - 1) new) refl
  where
    at : (b : Bool) → nat_le (2 ^ 64 - 1) new ≡ b → HaveFailed once n old new
    at true test =
        let end : 2 ^ 64 - 1 ≤ new = grind (arith, nat_tests) in
        record { risen = inr end; just = λ is. inr end; quiet = h.quiet; no_fall = (h.no_fall, h.stands) }
    at false test =
        let below : new < 2 ^ 64 - 1 = grind (arith, nat_tests) in
        record { risen = inl (omega (arith, h.risen)); just = λ is. inl (h.just is below); quiet = h.quiet; no_fall = (h.no_fall, h.stands) }

-- more datagrams that were handed to a port, beside a count that stands at its end
pub counted_more : {P : Type 0} (ports : Ports P) (start count : ℕ) (old new : P) (datagrams : List Departure) (sent failed : ℕ) →
    AreCounted ports.counts_once count start (ports.faults old) → HandsOver ports old new datagrams sent failed →
    AreCounted ports.counts_once (min (count + failed) (2 ^ 64 - 1)) start (ports.faults new)
counted_more ports start count old new datagrams sent failed so_far h =
    counted_of ports.counts_once (min (count + failed) (2 ^ 64 - 1)) start (ports.faults new)
    (failed_bounded ports.counts_once (count + failed) start (ports.faults new)
    (failed-append ports.counts_once count failed start (ports.faults old) (ports.faults new)
    (failed_of ports.counts_once count start (ports.faults old) so_far) (failed_hands ports old new datagrams sent failed h)))
