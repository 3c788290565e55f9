-- Rounds of lanes, one after the other.
use Rattle.std.proofs.Common.{◌≡◌, ◌∙◌, ℕ, ◌+◌, ◌-◌, ◌*◌, ◌^◌, ◌≤◌, min, Bool, ◌++◌, List, drop, refl, sym, ap, subst, arith, Option, Some, None}
use Rattle.std.specs.Prelude.{IfSome}
use Rattle.std.proofs.lemmas.{List.{drop-drop}}
use Rattle.ptu_outside.specs.declared.{arrival.Arrival.{Arrival}, clock.Clock.{Ghosts as Clocks}}
use Rattle.ptu_outside.specs.{declared.port.Port.{Ghosts as Ports}, Faults.{HasNotFallen, HasRisen}}
use Rattle.ptu_outside.proofs.HandsOver.{not_fallen_both, not_fallen_none, rises_first, rises_second}
use Rattle.ptu_profile.specs.declared.grandmaster.GmConfig.{GmConfig}
use Rattle.ptu_shared.specs.{Opening.{HaveFailed}}
use Rattle.ptu_shared.proofs.Failing.{failed-append, failed_bounded, failed_none}
use Rattle.ptu_outside.specs.Rounds.{most}
use Rattle.ptu_lanes.specs.Rounds.{IsRound}
use Rattle.ptu_lanes.specs.{Waiting.{GaveFirst, MissedFew, Took}}
use Rattle.ptu_lanes.specs.Stretches.{CountsFailures, TookDelayReqs}
use Rattle.ptu_lanes.proofs.Taking.{none_taken, took-append, took_up_to}

-- ---- what waited

-- the rest of the rest of a list
rest_more : {A : Type 0} (n m : ℕ) (xs : List A) → drop (most * m) (drop (most * n) xs) ≡ drop (most * (n + m)) xs
rest_more n m xs =
    let e : most * n + most * m ≡ most * (n + m) = omega arith in
    drop-drop (most * m) (most * n) xs ∙ ap (λ k. drop k xs) e

pub gave_none : (waiting : Option (List Arrival)) → GaveFirst (most * 0) waiting waiting
gave_none None = tt
gave_none (Some waited) = (waited, refl, refl)

pub gave-append : (n m : ℕ) (waiting middle left : Option (List Arrival)) →
    GaveFirst (most * n) waiting middle → GaveFirst (most * m) middle left → GaveFirst (most * (n + m)) waiting left
gave-append n m waiting middle None first second = tt
gave-append n m waiting None (Some later) first second = absurd (cc second.1)
gave-append n m waiting (Some between) (Some later) first second =
    let same : between ≡ second.0 = cc second.1 in (
      first.0,
      first.1,
      second.2 ∙ ap (drop (most * m)) (sym same ∙ first.2) ∙ rest_more n m first.0,
    )

-- ---- rounds at a port

pub some_more : {A : Type 0} (told : Option A) (Fact More : A → Type 0) → ((x : A) → Fact x → More x) → IfSome told Fact → IfSome told More
some_more None Fact More makes fact = tt
some_more (Some x) Fact More makes fact = makes x fact

-- failed calls that are counted after others
pub counts_more : (once : Bool) (faults faults' failed more failed' : ℕ) → HaveFailed once more faults faults' → failed' ≡ min (failed + more) (2 ^ 64 - 1) →
    CountsFailures once faults faults' failed failed'
counts_more once faults faults' failed more failed' f is = λ start before.
    subst (λ n. HaveFailed once n start faults') (sym is)
    (failed_bounded once (failed + more) start faults' (failed-append once failed more start faults faults' before f))

module _ {P C : Type 0} (ports : Ports P) (clocks : Clocks C) where
  pub delays_none : (port : P) (clock : C) (failed : ℕ) → TookDelayReqs ports clocks 0 port port clock clock failed failed
  delays_none port clock failed = record {
    gave = λ same. gave_none (ports.waiting port);
    took = took_up_to ports clocks 0 0 0 port port clock clock (none_taken ports clocks port clock) (omega arith);
    unsent = refl;
    missed = (0, omega arith, failed_none ports.counts_once (ports.faults port));
    failures = λ start f. f;
    no_fall = not_fallen_none (ports.faults port);
  }

  pub delays_one : (port port' : P) (clock clock' : C) (missed failed failed' : ℕ) →
      (¬ HasRisen (ports.faults port) (ports.faults port') → GaveFirst most (ports.waiting port) (ports.waiting port')) → Took ports clocks most 0 port port' clock clock' →
      ports.sent port' ≡ ports.sent port → HaveFailed ports.counts_once missed (ports.faults port) (ports.faults port') → missed ≤ 1 →
      failed' ≡ min (failed + missed) (2 ^ 64 - 1) → TookDelayReqs ports clocks 1 port port' clock clock' failed failed'
  delays_one port port' clock clock' missed failed failed' gave took unsent failures once is = record {
    gave = gave;
    took = took;
    unsent = unsent;
    missed = (missed, once, failures);
    failures = counts_more ports.counts_once (ports.faults port) (ports.faults port') failed missed failed' failures is;
    no_fall = failures.no_fall;
  }

  -- a wait behind them changes nothing of the port that it tells
  pub delays_waited : (n : ℕ) (p0 p1 p2 : P) (c0 c1 : C) (f0 f1 : ℕ) → ports.sent p2 ≡ ports.sent p1 → ports.waiting p2 ≡ ports.waiting p1 →
      ports.faults p2 ≡ ports.faults p1 → TookDelayReqs ports clocks n p0 p1 c0 c1 f0 f1 → TookDelayReqs ports clocks n p0 p2 c0 c1 f0 f1
  delays_waited n p0 p1 p2 c0 c1 f0 f1 sent waiting faults d = record {
    gave = λ same. subst (λ w. GaveFirst (most * n) (ports.waiting p0) w) (sym waiting)
        (d.gave (λ rises. same (subst (λ k. HasRisen (ports.faults p0) k) (sym faults) rises)));
    took = record {
      datagrams = d.took.datagrams;
      few = d.took.few;
      given = subst (λ w. IfSome w (λ later. ports.waiting p0 ≡ Some (d.took.datagrams ++ later))) (sym waiting) d.took.given;
      moments = d.took.moments;
    };
    unsent = sent ∙ d.unsent;
    missed = subst (λ k. (missed : ℕ) × (missed ≤ n) × HaveFailed ports.counts_once missed (ports.faults p0) k) (sym faults) d.missed;
    failures = λ start f. subst (λ k. HaveFailed ports.counts_once f1 start k) (sym faults) (d.failures start f);
    no_fall = subst (λ k. HasNotFallen (ports.faults p0) k) (sym faults) d.no_fall;
  }

  pub delays-append : (n m : ℕ) (p0 p1 p2 : P) (c0 c1 c2 : C) (f0 f1 f2 : ℕ) → TookDelayReqs ports clocks n p0 p1 c0 c1 f0 f1 → TookDelayReqs ports clocks m p1 p2 c1 c2 f1 f2 →
      TookDelayReqs ports clocks (n + m) p0 p2 c0 c2 f0 f2
  delays-append n m p0 p1 p2 c0 c1 c2 f0 f1 f2 p q = record {
    gave = λ same. gave-append n m (ports.waiting p0) (ports.waiting p1) (ports.waiting p2)
        (p.gave (λ rises. same (rises_first (ports.faults p0) (ports.faults p1) (ports.faults p2) rises q.no_fall)))
        (q.gave (λ rises. same (rises_second (ports.faults p0) (ports.faults p1) (ports.faults p2) p.no_fall rises)));
    took = took-append ports clocks (most * (n + m)) (most * n) (most * m) 0 p0 p1 p2 c0 c1 c2 (omega arith) p.took q.took;
    unsent = q.unsent ∙ p.unsent;
    missed = missed-append n m p0 p1 p2 p.missed q.missed;
    failures = λ start f. q.failures start (p.failures start f);
    no_fall = not_fallen_both (ports.faults p0) (ports.faults p1) (ports.faults p2) p.no_fall q.no_fall;
  }
    where
      missed-append : (n m : ℕ) (p0 p1 p2 : P) → MissedFew ports n p0 p1 → MissedFew ports m p1 p2 → MissedFew ports (n + m) p0 p2
      missed-append n m p0 p1 p2 (a, few, f) (b, few', g) =
          (a + b, omega (arith, few, few'), failed-append ports.counts_once a b (ports.faults p0) (ports.faults p1) (ports.faults p2) f g)

-- a round took the first that waited
pub front_given : {P : Type 0} (ports : Ports P) (greatest : ℕ) (config : GmConfig) (port port' : P) (granted now asks sent : ℕ) →
    IfSome (ports.waiting port') (λ left. IsRound ports greatest config port port' left granted now asks sent) → GaveFirst most (ports.waiting port) (ports.waiting port')
front_given ports greatest config port port' granted now asks sent r =
    some_more (ports.waiting port') _ _ (λ left is. (is.waited, is.all, is.rest)) r
