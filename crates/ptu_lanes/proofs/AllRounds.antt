-- Rounds of the lane that takes Signaling, one after the other, up to all of them.
use Rattle.std.proofs.Common.{◌≡◌, ◌∙◌, ℕ, ◌+◌, ◌*◌, ◌≤◌, true, false, List, [], ◌∷◌, ◌++◌, length, take, drop, refl, sym, ap, subst, arith, Option, Some, None}
use Rattle.std.specs.{Prelude.{IfSome, is_some}, List.{AllByRecursion}}
use Rattle.std.proofs.lemmas.List.{append_cancel_right, take-append-drop}
use Rattle.ptu_outside.specs.declared.{arrival.Arrival.{Arrival}, clock.Clock.{Ghosts as Clocks}, port.Port.{Ghosts as Ports}}
use Rattle.ptu_outside.specs.{Departure.{Departure}, Faults.{HasRisen}}
use Rattle.ptu_outside.specs.Rounds.{most}
use Rattle.ptu_outside.proofs.HandsOver.{rises_first, rises_second}
use Rattle.ptu_profile.specs.declared.grandmaster.GmConfig.{GmConfig}
use Rattle.ptu_shared.specs.Seats.{SeatCounts, no_verdicts}
use Rattle.ptu_config.specs.{declared.settings.GmSettings.{GmSettings}, Rounds.{all_rounds}}
use Rattle.ptu_lanes.specs.declared.lanes.ControlLane.{ControlLane}
use Rattle.ptu_lanes.specs.{Crew.{IsFresh, ServedAs}, Served.{IsControlled, IsUnspoken}}
use Rattle.ptu_lanes.specs.Heard.{IsLaneRound, SpokenTo, answers_in, reply_sent}
use Rattle.ptu_lanes.specs.Orders.{AreAllBy, AreEach, LaneAt, LaneRound, at_after, at_next, capacity_by, ends_with, exchanges_in, lane_moments, lane_sends, left_of, listed, opened_at, order_in, peak_ordered, round_moments, round_sends, spoken_in, stops_by}
use Rattle.ptu_lanes.specs.Rounds.{datagrams}
use Rattle.ptu_lanes.specs.Stretches.{DidLaneRound, HasMoved, lane_at, taking_of}
use Rattle.ptu_lanes.specs.Waiting.{GaveFirst}
use Rattle.ptu_lanes.proofs.Hearing.{spoken-append, spoken_as, spoken_none}
use Rattle.ptu_lanes.proofs.Moving.{failed_from, moved-append, moved_as, moved_none}
use Rattle.ptu_lanes.proofs.OrderedRounds.{NoneEnds, are_each-push, at_after-push, before_after, flat_push, lane_moments-push, lane_sends-push, last_ends, none_ended, none_ends-push}
use Rattle.ptu_lanes.proofs.Stretching.{gave-append, gave_none}

-- the datagrams that were taken are the first that waited
front_of : (xs later waited : List Arrival) (n : ℕ) → waited ≡ xs ++ later → later ≡ drop n waited → xs ≡ take n waited
front_of xs later waited n all rest =
    append_cancel_right xs (take n waited) later (sym all ∙ sym (take-append-drop n waited) ∙ ap (λ l. take n waited ++ l) (sym rest))

-- a control port stays, and where there is none, none comes
pub still_spoken : {P : Type 0} (ports : Ports P) (spoken : List Arrival) (answers : List Departure) (a b : Option P) → SpokenTo ports spoken answers a b → is_some b ≡ is_some a
still_spoken ports spoken answers None None h = refl
still_spoken ports spoken answers (Some a) (Some b) h = refl
still_spoken ports spoken answers None (Some b) h = absurd h
still_spoken ports spoken answers (Some a) None h = absurd h

module _ {P C G R : Type 0} (ports : Ports P) (clocks : Clocks C) (greatest : ℕ) (settings : GmSettings) (config : GmConfig) where
  -- so many rounds were done since the lane was opened
  pub record SoFar (count : ℕ) (old now : ControlLane P C G R) : Type 0 where
    pub rounds : List LaneRound
    pub many : length rounds ≡ count
    pub are : AreEach settings (IsLaneRound greatest settings config) (opened_at settings) rounds
    pub at : lane_at now ≡ at_after settings (opened_at settings) rounds
    pub missed : ℕ
    pub once : missed ≤ count
    pub moved : HasMoved ports clocks config (exchanges_in rounds) (lane_sends settings config (opened_at settings) rounds) (lane_moments settings (opened_at settings) rounds) missed
        (taking_of old) (taking_of now)
    pub front : ¬ HasRisen (ports.faults old.port) (ports.faults now.port) → GaveFirst (most * count) (ports.waiting old.port) (ports.waiting now.port)
    pub most : now.seat.granted + now.seat.refused ≤ old.seat.granted + old.seat.refused + 32 * most * count
    pub spoke : SpokenTo ports (spoken_in rounds) (answers_in rounds) old.control now.control

  pub so_far_none : (old : ControlLane P C G R) → IsFresh settings old → SoFar 0 old old
  unfolding lane_sends lane_moments
  so_far_none old fresh = record {
    rounds = [];
    many = refl;
    are = tt;
    at = λ t. record { before = fresh.done t; sequence = fresh.sequence t; class = fresh.class t; in_force = fresh.in_force t };
    missed = 0;
    once = omega arith;
    moved = moved_none ports clocks config (taking_of old);
    front = λ still. gave_none (ports.waiting old.port);
    most = omega arith;
    spoke = spoken_none ports old.control;
  }

  pub so_far_more : (count : ℕ) (old now new : ControlLane P C G R) (s : SoFar count old now) (d : DidLaneRound ports clocks greatest settings config now new) →
      (t : SoFar (count + 1) old new) × (t.rounds ≡ s.rounds ++ d.round ∷ [])
  so_far_more count old now new s d = (
    record {
      rounds = s.rounds ++ d.round ∷ [];
      many = let m = s.many in omega (arith, m, more);
      are = are_each-push settings (IsLaneRound greatest settings config) (opened_at settings) s.rounds d.round s.are
          (subst (λ at. IsLaneRound greatest settings config at d.round) s.at d.is);
      at = d.at ∙ ap (λ at. at_next settings at d.round) s.at ∙ sym (at_after-push settings (opened_at settings) s.rounds d.round);
      missed = s.missed + d.missed;
      once = let a = s.once in let b = d.once in omega (arith, a, b);
      moved = moved_as ports clocks config _ _ _ _ _ _ _ _ (taking_of old) (taking_of new) (sym (flat_push (λ (r : LaneRound). r.exchanges) s.rounds d.round)) sends moments refl
          (moved-append ports clocks config _ _ _ _ _ _ _ _ (taking_of old) (taking_of now) (taking_of new) s.moved d.moved);
      front = λ still. gave-append count 1 (ports.waiting old.port) (ports.waiting now.port) (ports.waiting new.port)
          (s.front (λ rises. still (rises_first (ports.faults old.port) (ports.faults now.port) (ports.faults new.port) rises d.moved.faults.no_fall)))
          (d.front (λ rises. still (rises_second (ports.faults old.port) (ports.faults now.port) (ports.faults new.port) s.moved.faults.no_fall rises)));
      most = let a = s.most in let b = d.most in omega (arith, a, b);
      spoke = spoken_as ports _ _ _ _ old.control new.control (sym (flat_push (λ (r : LaneRound). listed r.spoken) s.rounds d.round))
          (sym (flat_push (λ (r : LaneRound). reply_sent r.reply) s.rounds d.round))
          (spoken-append ports _ _ _ _ old.control now.control new.control s.spoke d.spoke);
    },
    refl,
  )
    where
      more : length (s.rounds ++ d.round ∷ []) ≡ length s.rounds + 1
      more = longer s.rounds
        where
          longer : (rs : List LaneRound) → length (rs ++ d.round ∷ []) ≡ length rs + 1
          longer [] = refl
          longer (x ∷ rs) = let ih = longer rs in omega (arith, ih)

      sends : lane_sends settings config (opened_at settings) s.rounds ++ round_sends config (lane_at now) d.round
          ≡ lane_sends settings config (opened_at settings) (s.rounds ++ d.round ∷ [])
      sends = ap (λ at. lane_sends settings config (opened_at settings) s.rounds ++ round_sends config at d.round) s.at
          ∙ sym (lane_sends-push settings config (opened_at settings) s.rounds d.round)

      moments : lane_moments settings (opened_at settings) s.rounds + round_moments settings (lane_at now) d.round
          ≡ lane_moments settings (opened_at settings) (s.rounds ++ d.round ∷ [])
      moments = ap (λ at. lane_moments settings (opened_at settings) s.rounds + round_moments settings at d.round) s.at
          ∙ sym (lane_moments-push settings (opened_at settings) s.rounds d.round)

  -- rounds that go on
  pub record GoesOnSoFar (count : ℕ) (old now : ControlLane P C G R) : Type 0 where
    pub so_far : SoFar count old now
    pub none : NoneEnds (ends_with settings) so_far.rounds
    pub going : now.stopped ≡ false

  pub goes_on_none : (old : ControlLane P C G R) → IsFresh settings old → GoesOnSoFar 0 old old
  unfolding so_far_none
  goes_on_none old fresh = record { so_far = so_far_none old fresh; none = tt; going = fresh.stopped }

  pub goes_on_more : (count : ℕ) (old now new : ControlLane P C G R) → GoesOnSoFar count old now → DidLaneRound ports clocks greatest settings config now new →
      new.stopped ≡ false → GoesOnSoFar (count + 1) old new
  goes_on_more count old now new s d going =
      let t = so_far_more count old now new s.so_far d in
      record {
        so_far = t.0;
        none = subst (NoneEnds (ends_with settings)) (sym t.1)
            (none_ends-push (ends_with settings) s.so_far.rounds d.round s.none (sym (d.stopped s.going) ∙ going));
        going = going;
      }

  -- how many rounds the lane did so far
  pub rounds_before : (count : ℕ) (old now : ControlLane P C G R) → SoFar count old now → now.done ≡ count
  rounds_before count old now s =
      let n = before_after settings (opened_at settings) s.rounds in let many = s.many in
      omega (arith, ap (λ (a : LaneAt). a.before) s.at, n, many)

  -- where its count did not rise, and it tells what waits, just these rounds were done at the port
  controlled : (count : ℕ) (old new : ControlLane P C G R) (s : SoFar count old new) → ¬ HasRisen (ports.faults old.port) (ports.faults new.port) →
      IfSome (ports.waiting new.port) (λ left. IsControlled ports settings config old.port new.port left s.rounds)
  controlled count old new s still = of (ports.waiting new.port) s.moved.given (s.front still)
    where
      of : (told : Option (List Arrival)) → IfSome told (λ later. ports.waiting old.port ≡ Some (datagrams (exchanges_in s.rounds) ++ later)) →
          GaveFirst (most * count) (ports.waiting old.port) told → IfSome told (λ left. IsControlled ports settings config old.port new.port left s.rounds)
      of None given front = tt
      of (Some later) given (waited, all, rest) =
          let same : waited ≡ datagrams (exchanges_in s.rounds) ++ later = cc (all, given) in
          let many : most * count ≡ most * length s.rounds = ap (λ n. most * n) (sym s.many) in
          record {
            waited = waited;
            all = all;
            all_are = front_of (datagrams (exchanges_in s.rounds)) later waited (most * count) same rest ∙ ap (λ n. take n waited) many;
            rest = rest ∙ ap (λ n. drop n waited) many;
            told = s.moved.handed.part.all still;
            goes_on = s.moved.handed.goes_on still;
          }

  -- all rounds
  pub served_of : (count : ℕ) (old new : ControlLane P C G R) (s : SoFar count old new) → AreAllBy (ends_with settings) (all_rounds settings) s.rounds →
      IsFresh settings old → old.seat ≡ no_verdicts → (old.tally.sent ≡ 0) × (old.tally.failed ≡ 0) → greatest ≡ peak_ordered (is_some old.control) settings →
      ServedAs ports clocks settings config old new
  served_of count old new s ends fresh seat none peak = record {
    exchanged = record {
      rounds = s.rounds;
      are = subst (λ n. AreEach settings (IsLaneRound n settings config) (opened_at settings) s.rounds) peak s.are;
      ends = ends;
      given = s.moved.given;
      granted_are = let g = s.moved.granted in omega (arith, g, ap (λ (c : SeatCounts). c.granted) seat);
      counted = let g = s.moved.counted in omega (arith, g, ap (λ (c : SeatCounts). c.granted) seat, ap (λ (c : SeatCounts). c.refused) seat);
      moments = s.moved.passed;
      sent = s.moved.sent;
      handed = s.moved.handed;
      missed = s.missed;
      once = let a = s.once in let m = s.many in omega (arith, a, m);
      failed = s.moved.failed;
      each = s.moved.each;
      failures = s.moved.faults;
    };
    all_done = let n = before_after settings (opened_at settings) s.rounds in omega (arith, ap (λ (a : LaneAt). a.before) s.at, n);
    control = controlled count old new s;
    spoken = s.spoke;
    in_force_is = ap (λ (a : LaneAt). a.in_force) s.at;
    sends = let all = s.moved.sums 0 (omega (arith, none.0)) in omega (arith, all);
    failed = failed_from ports old.port new.port old.tally.failed new.tally.failed none.1 s.moved.counts;
  }

  pub served_whole : (count : ℕ) (old new : ControlLane P C G R) → count ≡ all_rounds settings → GoesOnSoFar count old new →
      IsFresh settings old → old.seat ≡ no_verdicts → (old.tally.sent ≡ 0) × (old.tally.failed ≡ 0) → greatest ≡ peak_ordered (is_some old.control) settings →
      ServedAs ports clocks settings config old new
  served_whole count old new all s fresh seat none peak =
      served_of count old new s.so_far
      (subst (λ n. AreAllBy (ends_with settings) n s.so_far.rounds) (s.so_far.many ∙ all) (none_ended (ends_with settings) s.so_far.rounds s.none)) fresh seat none peak

  pub served_stopped : (count : ℕ) (old now new : ControlLane P C G R) → GoesOnSoFar count old now → DidLaneRound ports clocks greatest settings config now new →
      new.stopped ≡ true → count + 1 ≤ all_rounds settings → IsFresh settings old → old.seat ≡ no_verdicts → (old.tally.sent ≡ 0) × (old.tally.failed ≡ 0) →
      greatest ≡ peak_ordered (is_some old.control) settings → ServedAs ports clocks settings config old new
  served_stopped count old now new s d stopped few fresh seat none peak =
      let t = so_far_more count old now new s.so_far d in
      let many = s.so_far.many in
      served_of (count + 1) old new t.0
      (subst (λ rs. AreAllBy (ends_with settings) (all_rounds settings) rs) (sym t.1)
      (last_ends (ends_with settings) s.so_far.rounds d.round (all_rounds settings) s.none (sym (d.stopped s.going) ∙ stopped) (omega (arith, many, few)))) fresh seat none peak

-- ---- without a control port

pub unspoken_each : (greatest : ℕ) (settings : GmSettings) (config : GmConfig) (at : LaneAt) (rs : List LaneRound) → AreEach settings (IsLaneRound greatest settings config) at rs →
    spoken_in rs ≡ [] → AllByRecursion IsUnspoken rs × NoneEnds (ends_with settings) rs
unspoken_each greatest settings config at [] are none = (tt, tt)
unspoken_each greatest settings config at (r ∷ rs) (is, are) none =
    of r.spoken refl (λ rest. unspoken_each greatest settings config (at_next settings at r) rs are rest)
  where
    of : (spoken : Option Arrival) → r.spoken ≡ spoken → (spoken_in rs ≡ [] → AllByRecursion IsUnspoken rs × NoneEnds (ends_with settings) rs) →
        AllByRecursion IsUnspoken (r ∷ rs) × NoneEnds (ends_with settings) (r ∷ rs)
    of (Some arrival) said later =
        let some : arrival ∷ spoken_in rs ≡ [] = sym (ap (λ s. listed s ++ spoken_in rs) said) ∙ none in
        absurd (cc some)
    of None said later =
        let rest : spoken_in rs ≡ [] = sym (ap (λ s. listed s ++ spoken_in rs) said) ∙ none in
        let no_order : left_of (order_in settings r.spoken) ≡ None = ap (λ s. left_of (order_in settings s)) said in (
          (record { nothing = said; none_shed = is.kept (ap capacity_by no_order) }, (later rest).0),
          (ap stops_by no_order, (later rest).1),
        )
