-- What a run comes to over the ports and clocks that were opened.
use Rattle.std.proofs.Common.{◌≡◌, ◌∙◌, inl, ℕ, ◌+◌, List, [], ◌∷◌, map, refl, sym, ap, subst, arith, add-zero, Option, None, true}
use Rattle.std.proofs.lemmas.List.{map-append}
use Rattle.std.specs.Prelude.{IsSome}
use Rattle.ptu_outside.specs.declared.{arrival.Arrival.{Arrival}, clock.Clock.{Ghosts as Clocks}}
use Rattle.ptu_outside.specs.declared.{opened.Opened.{Opened}, port.Port.{Ghosts as Ports}}
use Rattle.ptu_outside.specs.{Departure.{Departure}, Faults.{HasRisen, HasRisenBy}}
use Rattle.ptu_outside.specs.Handing.{HasPut, HasPutPart}
use Rattle.ptu_outside.proofs.Putting.{HasPutPart-append}
use Rattle.ptu_judges.specs.Held.{Held}
use Rattle.ptu_config.specs.{declared.settings.SlaveSettings.{SlaveSettings}, Rounds.{all_slave_rounds}}
use Rattle.ptu_slave.specs.Kept.{Kept}
use Rattle.ptu_outside.specs.{Handed.{FailuresAre}, Ports.{HaveNotRisen, HaveRisenBy, HaveRisenJust, ports_of}}
use Rattle.ptu_slave_daemon.specs.declared.line.SlaveLine.{SlaveLine}
use Rattle.ptu_slave_daemon.specs.Happenings.{Selection, happenings}
use Rattle.ptu_slave_daemon.specs.{Lines.{changes, slave_line_text, output, slave_texts}, Opening.{node_of}}
use Rattle.ptu_slave_daemon.specs.Running.{IsFront, RunDone, view_of}
use Rattle.ptu_slave_daemon.specs.Served.{AreAside, SlaveHappened, HasDone, HasServed, HasStopped, Tell}
use Rattle.ptu_slave_daemon.proofs.Fronts.{run_is, run_output}

-- a count that stands still has risen by nothing
risen_none : (n : ℕ) → HasRisenBy 0 n n
risen_none n = inl (omega arith)

zero_more : (n : ℕ) → n ≡ 0 + n
zero_more n = omega arith

-- nor have several more, of which the first stands still
still_first : (n old new : ℕ) (olds news : List ℕ) → new ≡ old → HaveRisenBy n olds news → HaveRisenBy n (old ∷ olds) (new ∷ news)
still_first n old new olds news same others = (0, n, zero_more n, subst (HasRisenBy 0 old) (sym same) (risen_none old), others)

-- or the first four
four_still : (n a b c d a' b' c' d' : ℕ) (olds news : List ℕ) → a' ≡ a → b' ≡ b → c' ≡ c → d' ≡ d → HaveRisenBy n olds news
    → HaveRisenBy n (a ∷ b ∷ c ∷ d ∷ olds) (a' ∷ b' ∷ c' ∷ d' ∷ news)
four_still n a b c d a' b' c' d' olds news p q r s others =
    still_first n a a' (b ∷ c ∷ d ∷ olds) (b' ∷ c' ∷ d' ∷ news) p
    (still_first n b b' (c ∷ d ∷ olds) (c' ∷ d' ∷ news) q (still_first n c c' (d ∷ olds) (d' ∷ news) r (still_first n d d' olds news s others)))

-- likewise where they rose by just so many
just_first : (n old new : ℕ) (olds news : List ℕ) → new ≡ old → HaveRisenJust n olds news → HaveRisenJust n (old ∷ olds) (new ∷ news)
just_first n old new olds news same others = (0, n, zero_more n, inl (omega (arith, same)), others)

four_just : (n a b c d a' b' c' d' : ℕ) (olds news : List ℕ) → a' ≡ a → b' ≡ b → c' ≡ c → d' ≡ d → HaveRisenJust n olds news
    → HaveRisenJust n (a ∷ b ∷ c ∷ d ∷ olds) (a' ∷ b' ∷ c' ∷ d' ∷ news)
four_just n a b c d a' b' c' d' olds news p q r s others =
    just_first n a a' (b ∷ c ∷ d ∷ olds) (b' ∷ c' ∷ d' ∷ news) p
    (just_first n b b' (c ∷ d ∷ olds) (c' ∷ d' ∷ news) q (just_first n c c' (d ∷ olds) (d' ∷ news) r (just_first n d d' olds news s others)))

-- or none rose
six_same : (a b c d e f a' b' c' d' e' f' : ℕ) → a' ≡ a → b' ≡ b → c' ≡ c → d' ≡ d → e' ≡ e → f' ≡ f
    → a' ∷ b' ∷ c' ∷ d' ∷ e' ∷ f' ∷ [] ≡ a ∷ b ∷ c ∷ d ∷ e ∷ f ∷ []
six_same a b c d e f a' b' c' d' e' f' p q r s t u = cc

-- what is given back: the slave's port, the port of the event channel and the clock, and what was opened beside them
abbrev pub given_back : {P C : Type 0} → Opened P C → P → P → C → Opened P C
given_back opened own event clock = record {
  p0 = opened.p0;
  p1 = opened.p1;
  p2 = opened.p2;
  p3 = opened.p3;
  p4 = own;
  p5 = event;
  c0 = clock;
  c1 = opened.c1;
  c2 = opened.c2;
  c3 = opened.c3;
  c4 = opened.c4;
  c5 = opened.c5;
}

pub aside_of : {P C : Type 0} (sent : P → Option (List Departure)) (opened : Opened P C) (own event : P) (clock : C) → sent event ≡ sent opened.p5
    → AreAside sent opened (given_back opened own event clock)
aside_of sent opened own event clock same = record { p0 = refl; p1 = refl; p2 = refl; p3 = refl; p5 = same; c1 = refl; c2 = refl; c3 = refl; c4 = refl; c5 = refl }

module _ {P C K : Type 0} (ports : Ports P) (clocks : Clocks C) (written : K → Option (List ℕ)) (handed : K → Option (List (List ℕ))) where
  module _ (settings : SlaveSettings) (before after : Opened P C) (old new : K) (kept kept' : Kept) (judges judges' : List Held)
      (selections : List Selection) (sends failures : ℕ) (aside : AreAside ports.sent before after)
      (put : HasPut written handed old new (slave_texts (output (all_slave_rounds settings) (changes None selections) sends failures)))
      (r : RunDone ports.counts_once (all_slave_rounds settings) selections sends failures (node_of settings) [] (view_of ports clocks kept judges before.p4 before.c0) (view_of ports clocks kept' judges' after.p4 after.c0)
      (ports.waiting before.p4) (ports.waiting after.p4) (ports.waiting before.p5) (ports.waiting after.p5) (ports.faults before.p5) (ports.faults after.p5)) where
    have_risen : HaveRisenBy failures (map ports.faults (ports_of before)) (map ports.faults (ports_of after))
    have_risen =
        four_still failures _ _ _ _ _ _ _ _ (ports.faults before.p4 ∷ ports.faults before.p5 ∷ []) (ports.faults after.p4 ∷ ports.faults after.p5 ∷ [])
        (ap ports.faults aside.p0) (ap ports.faults aside.p1) (ap ports.faults aside.p2) (ap ports.faults aside.p3) (
          r.failed,
          r.event_failed,
          r.failures_are,
          r.ran.port.fails.risen,
          (r.event_failed, 0, sym (add-zero r.event_failed), r.event_fails.risen, refl),
        )

    have_risen_just : ports.counts_once ≡ true → HaveRisenJust failures (map ports.faults (ports_of before)) (map ports.faults (ports_of after))
    have_risen_just once =
        four_just failures _ _ _ _ _ _ _ _ (ports.faults before.p4 ∷ ports.faults before.p5 ∷ []) (ports.faults after.p4 ∷ ports.faults after.p5 ∷ [])
        (ap ports.faults aside.p0) (ap ports.faults aside.p1) (ap ports.faults aside.p2) (ap ports.faults aside.p3) (
          r.failed,
          r.event_failed,
          r.failures_are,
          r.ran.port.fails.just once,
          (r.event_failed, 0, sym (add-zero r.event_failed), r.event_fails.just once, refl),
        )

    have_failed : FailuresAre ports.counts_once failures (map ports.faults (ports_of before)) (map ports.faults (ports_of after))
    have_failed = record {
      risen = have_risen;
      just = have_risen_just;
      quiet = λ none. six_same _ _ _ _ _ _ _ _ _ _ _ _ (ap ports.faults aside.p0) (ap ports.faults aside.p1) (ap ports.faults aside.p2) (ap ports.faults aside.p3)
          (r.ran.port.fails.quiet (omega (arith, none, r.failures_are))) (r.event_fails.quiet (omega (arith, none, r.failures_are)));
    }

    has_happened : SlaveHappened ports clocks settings before after (changes None selections) sends failures
    has_happened = record {
      rounds = r.took;
      taken = r.taken;
      general = r.general_gave;
      event = r.event_gave;
      happenings = r.hs;
      happened = r.ran.happened;
      moments = r.ran.timed;
      part = r.ran.port.part;
      missed = r.missed + r.event_failed;
      once = r.few;
      each = omega (arith, r.ran.port.each, r.failures_are);
      selects = ap (λ ss. changes None ss) r.ran.selects;
    }

    done_as_said : (general event : List Arrival) (times : List ℕ) → Tell ports clocks before after general event times
        → HaveNotRisen (map ports.faults (ports_of before)) (map ports.faults (ports_of after))
        → HasDone ports clocks written handed settings before after old new (happenings (all_slave_rounds settings) general event times)
    done_as_said general event times tell none = subst (HasDone ports clocks written handed settings before after old new)
        (run_is ports.counts_once (node_of settings) [] _ _ _ _ _ _ _ _ (all_slave_rounds settings) selections sends failures general event times r tell.general_is tell.event_is tell.times_are
        tell.general_after tell.event_after tell.times_after none.1.1.1.1.0 none.1.1.1.1.1.0)
        (record {
          sends = r.ran.port.part.all none.1.1.1.1.0;
          writes = subst (λ lines. HasPut written handed old new (slave_texts lines))
              (run_output ports.counts_once (node_of settings) [] _ _ _ _ _ _ _ _ (all_slave_rounds settings) selections sends failures r none.1.1.1.1.0 none.1.1.1.1.1.0) put;
        })

    pub has_served : HasServed ports clocks written handed settings before after old new
    has_served = record {
      aside = aside;
      selections = changes None selections;
      sends = sends;
      failures = failures;
      writes = put;
      failed = have_failed;
      happened = has_happened;
      exact = done_as_said;
    }

  -- the same of the slave's own port, which is port 4
  pub has_served_by : (settings : SlaveSettings) (before after : Opened P C) (old new : K) (kept kept' : Kept) (judges judges' : List Held) (p q : P)
      (selections : List Selection) (sends failures : ℕ) → AreAside ports.sent before after → p ≡ before.p4 → after.p4 ≡ q
      → HasPut written handed old new (slave_texts (output (all_slave_rounds settings) (changes None selections) sends failures))
      → RunDone ports.counts_once (all_slave_rounds settings) selections sends failures (node_of settings) [] (view_of ports clocks kept judges p before.c0) (view_of ports clocks kept' judges' q after.c0)
      (ports.waiting p) (ports.waiting q) (ports.waiting before.p5) (ports.waiting after.p5) (ports.faults before.p5) (ports.faults after.p5)
      → HasServed ports clocks written handed settings before after old new
  has_served_by settings before after old new kept kept' judges judges' p q selections sends failures aside own back put r =
      has_served settings before after old new kept kept' judges judges' selections sends failures aside put
      (subst (λ x. RunDone ports.counts_once (all_slave_rounds settings) selections sends failures (node_of settings) [] (view_of ports clocks kept judges before.p4 before.c0) (view_of ports clocks kept' judges' x after.c0)
      (ports.waiting before.p4) (ports.waiting x) (ports.waiting before.p5) (ports.waiting after.p5) (ports.faults before.p5) (ports.faults after.p5)) (sym back)
      (subst (λ x. RunDone ports.counts_once (all_slave_rounds settings) selections sends failures (node_of settings) [] (view_of ports clocks kept judges x before.c0) (view_of ports clocks kept' judges' q after.c0)
      (ports.waiting x) (ports.waiting q) (ports.waiting before.p5) (ports.waiting after.p5) (ports.faults before.p5) (ports.faults after.p5)) own r))

  -- the sink failed
  pub has_stopped : (settings : SlaveSettings) (before after : Opened P C) (old new : K) (kept kept' : Kept) (judges judges' : List Held) (p q : P) (lines : List SlaveLine)
      → AreAside ports.sent before after → p ≡ before.p4 → after.p4 ≡ q → HasPutPart written handed old new (slave_texts lines)
      → IsFront (all_slave_rounds settings) lines (node_of settings) [] (view_of ports clocks kept judges p before.c0) (view_of ports clocks kept' judges' q after.c0)
      (ports.waiting p) (ports.waiting q) (ports.waiting before.p5) (ports.waiting after.p5) (ports.faults before.p5) (ports.faults after.p5)
      → HasStopped ports clocks written handed settings before after old new
  has_stopped settings before after old new kept kept' judges judges' p q lines aside own back part front = record {
    aside = aside;
    front = λ general event times tell none.
        let f = front general event times (ap ports.waiting own ∙ tell.general_is) tell.event_is tell.times_are
        (subst (λ x. IsSome (ports.waiting x)) back tell.general_after) tell.event_after tell.times_after
        (λ rises. none.1.1.1.1.0 (subst (λ x. HasRisen (ports.faults x) (ports.faults after.p4)) own (subst (λ x. HasRisen (ports.faults p) (ports.faults x)) (sym back) rises))) none.1.1.1.1.1.0 in
        subst (HasPutPart written handed old new) (sym (ap slave_texts f.1 ∙ map-append slave_line_text lines f.0))
        (HasPutPart-append written handed old new (slave_texts lines) (slave_texts f.0) part);
  }
