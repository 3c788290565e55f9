-- What the lane that takes Signaling has moved, one part after the other.
use Rattle.std.proofs.Common.{◌≡◌, ◌∙◌, ℕ, ◌+◌, ◌-◌, ◌^◌, min, List, [], ◌++◌, length, length-append, refl, sym, ap, subst, arith, Option, Some, None}
use Rattle.std.specs.Prelude.{IfSome}
use Rattle.std.proofs.lemmas.List.{map-append, Sums.{sum_by-append}}
use Rattle.ptu_outside.specs.declared.{arrival.Arrival.{Arrival}, clock.Clock.{Ghosts as Clocks}, port.Port.{Ghosts as Ports}}
use Rattle.ptu_outside.specs.{Departure.{Departure}, Handed.{WasHanded}, HandsOver.{HandsOver}}
use Rattle.ptu_profile.specs.declared.grandmaster.GmConfig.{GmConfig}
use Rattle.ptu_shared.specs.{Opening.{HaveFailed}, Seats.{SeatCounts}}
use Rattle.ptu_shared.proofs.Failing.{failed-append, failed_hands, failed_none}
use Rattle.ptu_lanes.specs.Answers.{asks_among, grants_among}
use Rattle.ptu_lanes.specs.Rounds.{Exchange, Exchanged, answers_of, asks_in, datagrams, grants_in, items_of, replies}
use Rattle.ptu_lanes.specs.Stretches.{CountsFailures, HasMoved, Taking}
use Rattle.ptu_lanes.specs.Waiting.{PassedBy}
use Rattle.ptu_lanes.proofs.{Exchanges.{exchanges_more}, Handing.{handed-append, handed_none, handed_of}, Moments.{passed-append, passed_none}, Stretching.{counts_more}}

-- ---- exchanges

pub grants_in-append : (xs ys : List Exchange) → grants_in (xs ++ ys) ≡ grants_in xs + grants_in ys
grants_in-append xs ys = sum_by-append (λ (e : Exchange). grants_among (answers_of e)) xs ys

pub asks_in-append : (config : GmConfig) (xs ys : List Exchange) → asks_in config (datagrams (xs ++ ys)) ≡ asks_in config (datagrams xs) + asks_in config (datagrams ys)
asks_in-append config xs ys =
    ap (asks_in config) (map-append (λ (e : Exchange). e.datagram) xs ys) ∙ sum_by-append (λ d. asks_among (items_of config d)) (datagrams xs) (datagrams ys)

given_none : (told : Option (List Arrival)) → IfSome told (λ later. told ≡ Some (datagrams [] ++ later))
given_none None = tt
given_none (Some waited) = refl

-- ---- counts

-- what failed, from a count of nothing on
pub failed_from : {P : Type 0} (ports : Ports P) (p0 p1 : P) (f0 f1 : ℕ) → f0 ≡ 0 → CountsFailures ports.counts_once (ports.faults p0) (ports.faults p1) f0 f1 →
    HaveFailed ports.counts_once f1 (ports.faults p0) (ports.faults p1)
failed_from ports p0 p1 f0 f1 none p =
    p (ports.faults p0) (subst (λ n. HaveFailed ports.counts_once n (ports.faults p0) (ports.faults p0)) (sym none) (failed_none ports.counts_once (ports.faults p0)))

-- ---- parts of a round

module _ {P C : Type 0} (ports : Ports P) (clocks : Clocks C) (config : GmConfig) where
  -- nothing was done
  pub moved_none : (old : Taking P C) → HasMoved ports clocks config [] [] 0 0 old old
  moved_none old = record {
    given = given_none (ports.waiting old.port);
    granted = omega arith;
    counted = omega arith;
    passed = passed_none (clocks.moments old.clock);
    sent = 0;
    handed = handed_none ports old.port;
    failed = 0;
    each = omega arith;
    faults = failed_none ports.counts_once (ports.faults old.port);
    counts = λ start f. f;
    sums = λ start was. omega (arith, was);
  }

  -- one part behind another
  pub moved-append : (es fs : List Exchange) (ds gs : List Departure) (m n k l : ℕ) (a b c : Taking P C) →
      HasMoved ports clocks config es ds m k a b → HasMoved ports clocks config fs gs n l b c → HasMoved ports clocks config (es ++ fs) (ds ++ gs) (m + n) (k + l) a c
  moved-append es fs ds gs m n k l a b c p q = record {
    given = exchanges_more es fs (ports.waiting a.port) (ports.waiting b.port) (ports.waiting c.port) p.given q.given;
    granted = let x = p.granted in let y = q.granted in omega (arith, x, y, grants_in-append es fs);
    counted = let x = p.counted in let y = q.counted in omega (arith, x, y, asks_in-append config es fs);
    passed = passed-append m n (clocks.moments a.clock) (clocks.moments b.clock) (clocks.moments c.clock) p.passed q.passed;
    sent = p.sent + q.sent;
    handed = handed-append ports a.port b.port c.port ds gs p.sent q.sent p.faults.no_fall q.faults.no_fall p.handed q.handed;
    failed = p.failed + q.failed;
    each = let x = p.each in let y = q.each in omega (arith, x, y, length-append ds gs);
    faults = failed-append ports.counts_once p.failed q.failed (ports.faults a.port) (ports.faults b.port) (ports.faults c.port) p.faults q.faults;
    counts = λ start f. q.counts start (p.counts start f);
    sums = λ start was.
        let first = p.sums start was in
        let second = q.sums (start + p.sent) first in
        omega (arith, second);
  }

  -- other words for the same
  pub moved_as : (es es' : List Exchange) (ds ds' : List Departure) (m m' k k' : ℕ) (a b : Taking P C) → es ≡ es' → ds ≡ ds' → m ≡ m' → k ≡ k' →
      HasMoved ports clocks config es ds m k a b → HasMoved ports clocks config es' ds' m' k' a b
  moved_as es es' ds ds' m m' k k' a b e f g h p =
      subst (λ x. HasMoved ports clocks config x ds' m' k' a b) e
      (subst (λ x. HasMoved ports clocks config es x m' k' a b) f
      (subst (λ x. HasMoved ports clocks config es ds x k' a b) g
      (subst (λ x. HasMoved ports clocks config es ds m x a b) h p)))

  -- datagrams were handed to the port, and so many moments were taken; the seat has counted nothing
  pub moved_hands : (ds : List Departure) (m sent failed : ℕ) (a b : Taking P C) → HandsOver ports a.port b.port ds sent failed → b.seat ≡ a.seat →
      PassedBy m (clocks.moments a.clock) (clocks.moments b.clock) → b.gone ≡ min (a.gone + sent) (2 ^ 128 - 1) → b.failures ≡ min (a.failures + failed) (2 ^ 64 - 1) →
      HasMoved ports clocks config [] ds m 0 a b
  moved_hands ds m sent failed a b hands seat passed goes is = record {
    given = subst (λ told. IfSome told (λ later. ports.waiting a.port ≡ Some (datagrams [] ++ later))) (sym hands.waiting) (given_none (ports.waiting a.port));
    granted = omega (arith, ap (λ (s : SeatCounts). s.granted) seat);
    counted = omega (arith, ap (λ (s : SeatCounts). s.granted) seat, ap (λ (s : SeatCounts). s.refused) seat);
    passed = passed;
    sent = sent;
    handed = handed_of ports a.port b.port ds sent failed hands;
    failed = failed;
    each = let x = hands.each in omega (arith, x);
    faults = failed_hands ports a.port b.port ds sent failed hands;
    counts = counts_more ports.counts_once (ports.faults a.port) (ports.faults b.port) a.failures failed b.failures (failed_hands ports a.port b.port ds sent failed hands) is;
    sums = λ start was. omega (arith, was, goes);
  }

  -- what waits was taken in a round
  pub moved_taken : (greatest sent failed : ℕ) (a b : Taking P C) (x : Exchanged ports clocks greatest config 1 sent failed a.port b.port a.clock b.clock a.seat b.seat) →
      b.gone ≡ min (a.gone + sent) (2 ^ 128 - 1) → b.failures ≡ min (a.failures + failed) (2 ^ 64 - 1) →
      HasMoved ports clocks config x.exchanges (replies config x.exchanges) (length x.exchanges) x.missed a b
  moved_taken greatest sent failed a b x goes is = record {
    given = x.given;
    granted = x.granted;
    counted = x.counted;
    passed = x.moments;
    sent = sent;
    handed = x.handed;
    failed = failed;
    each = x.each;
    faults = x.failures;
    counts = counts_more ports.counts_once (ports.faults a.port) (ports.faults b.port) a.failures failed b.failures x.failures is;
    sums = λ start was. omega (arith, was, goes);
  }

  -- so many moments were taken, and nothing else was done
  pub moved_ticked : (m : ℕ) (a b : Taking P C) → b.port ≡ a.port → b.seat ≡ a.seat → b.gone ≡ a.gone → b.failures ≡ a.failures →
      PassedBy m (clocks.moments a.clock) (clocks.moments b.clock) → HasMoved ports clocks config [] [] m 0 a b
  moved_ticked m a b port seat gone failures passed = record {
    given = subst (λ p. IfSome (ports.waiting p) (λ later. ports.waiting a.port ≡ Some (datagrams [] ++ later))) (sym port) (given_none (ports.waiting a.port));
    granted = omega (arith, ap (λ (s : SeatCounts). s.granted) seat);
    counted = omega (arith, ap (λ (s : SeatCounts). s.granted) seat, ap (λ (s : SeatCounts). s.refused) seat);
    passed = passed;
    sent = 0;
    handed = subst (λ p. WasHanded ports a.port p [] 0) (sym port) (handed_none ports a.port);
    failed = 0;
    each = omega arith;
    faults = subst (λ p. HaveFailed ports.counts_once 0 (ports.faults a.port) (ports.faults p)) (sym port) (failed_none ports.counts_once (ports.faults a.port));
    counts = λ start f. subst (λ n. HaveFailed ports.counts_once n start (ports.faults b.port)) (sym failures)
        (subst (λ p. HaveFailed ports.counts_once a.failures start (ports.faults p)) (sym port) f);
    sums = λ start was. omega (arith, was, gone);
  }
