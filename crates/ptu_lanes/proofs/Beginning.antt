-- The changes of capacity and the orders in a round, as parts of it.
use Rattle.std.proofs.Common.{◌≡◌, ◌∙◌, ℕ, ◌+◌, ◌-◌, ◌^◌, ◌≤◌, ◌<◌, ◌%◌, min, Bool, true, false, List, [], ◌∷◌, length, refl, sym, ap, ap₂, subst, arith, Option, Some, None, Result, Ok, Err}
use Rattle.std.specs.Prelude.{OnOk, ◌&&◌, ◌==◌, if◌then◌else◌, is_some}
use Rattle.std.proofs.{Math.Nat.{mod-eq_of_lt}, lemmas.Bool.{eqb-true, le-leb, lt-ltb}}
use Rattle.ptu_units.specs.Limits.{greatest_capacity}
use Rattle.ptu_units.specs.declared.{client.Client.{Client}, kind.Kind.{Kind}}
use Rattle.ptu_outside.specs.declared.{clock.Clock.{Ghosts as Clocks}, port.Port.{Ghosts as Ports}}
use Rattle.ptu_outside.specs.HandsOver.{HandsOver}
use Rattle.ptu_profile.specs.declared.grandmaster.GmConfig.{GmConfig}
use Rattle.ptu_gm_messages.specs.Replies.{cancels_to}
use Rattle.ptu_config.specs.{declared.settings.GmSettings.{GmSettings}, Rounds.{all_rounds}}
use Rattle.ptu_config.specs.declared.answer.Reply.{Reply}
use Rattle.ptu_lanes.specs.declared.{lanes.ControlLane.{ControlLane}, orders.Order.{Order}}
use Rattle.ptu_lanes.specs.declared.orders.Order.TheVariants as orders
use Rattle.ptu_lanes.specs.Changing.{begins_changed, change_of, greater_of, later_of, new_with, peak_capacity}
use Rattle.ptu_lanes.specs.Heard.{SpokenTo, answer_sent, reply_to}
use Rattle.ptu_lanes.specs.Orders.{moments_if, peak_ordered, sequence_on}
use Rattle.ptu_lanes.specs.Stretches.{HasBegun, HasExecuted, HasObeyed, HasResized, taking_of}
use Rattle.ptu_lanes.specs.Waiting.{PassedBy}
use Rattle.ptu_lanes.proofs.{Hearing.{spoken_none}, Moving.{moved_as, moved_hands, moved_none, moved_ticked}}

-- the settings change with a round just where there is a new capacity with it
begins_is : (settings : GmSettings) (before : ℕ) → begins_changed settings before ≡ is_some (new_with settings before)
begins_is settings before = of (settings.change_round == before + 1) settings.new_capacity
  where
    of : (b : Bool) (c : Option ℕ) → (b && is_some c) ≡ is_some (if b then c else None)
    of true c = refl
    of false c = refl

-- what holds where a call succeeds
pub on_ok_is : {A E X : Type 0} (r : Result A E) (x : A) → r ≡ Ok x → OnOk r X → X
on_ok_is (Ok y) x is h = h
on_ok_is (Err e) x is h = absurd (cc is)

-- no CANCEL is none in the numbers
none_on : (sequence : ℕ) → sequence < 65536 → sequence_on sequence [] ≡ sequence
none_on sequence small = let same : sequence + 0 ≡ sequence = omega arith in ap (λ n. n % 65536) same ∙ mod-eq_of_lt small

module _ {P C G R : Type 0} (ports : Ports P) (clocks : Clocks C) (config : GmConfig) where
  -- what a change of the capacity in force came to
  abbrev pub Sheds : ControlLane P C G R → ControlLane P C G R → ℕ → Type 0
  Sheds old new count = (shed : List (Client × Kind)) × (sent : ℕ) × (failed : ℕ) × HandsOver ports old.port new.port (cancels_to config old.sequence shed) sent failed
      × (count ≡ length shed) × (new.sequence ≡ (old.sequence + length shed) % 65536)
      × (new.tally.sent ≡ min (old.tally.sent + sent) (2 ^ 128 - 1)) × (new.tally.failed ≡ min (old.tally.failed + failed) (2 ^ 64 - 1))

  resized_by : (old new : ControlLane P C G R) (count moments : ℕ) (sends : Sheds old new count) → PassedBy moments (clocks.moments old.clock) (clocks.moments new.clock) →
      new.seat ≡ old.seat → HasResized ports clocks config moments sends.0 old.sequence new.sequence (taking_of old) (taking_of new)
  resized_by old new count moments (shed, sent, failed, hands, many, sequence_is, goes, counted) passed seat = record {
    moved = moved_hands ports clocks config (cancels_to config old.sequence shed) moments sent failed (taking_of old) (taking_of new) hands seat passed goes counted;
    sequence_is = sequence_is;
  }

  -- ---- the begin of a round

  pub begun_none : (settings : GmSettings) (lane : ControlLane P C G R) → lane.sequence < 65536 → new_with settings lane.done ≡ None → HasBegun ports clocks settings config lane lane
  begun_none settings lane small none =
      let begins : begins_changed settings lane.done ≡ false = begins_is settings lane.done ∙ ap is_some none in
      record {
        changed = [];
        resized = record {
          moved = moved_as ports clocks config [] [] [] [] 0 _ 0 0 (taking_of lane) (taking_of lane) refl refl (sym (ap moments_if begins)) refl
              (moved_none ports clocks config (taking_of lane));
          sequence_is = sym (none_on lane.sequence small);
        };
        unchanged = λ is. refl;
        seat = refl;
        in_force = sym (ap (later_of lane.in_force) none);
        done = refl;
        class = refl;
        control = refl;
        stopped = refl;
      }

  pub begun_changed : (settings : GmSettings) (old new : ControlLane P C G R) (capacity count : ℕ) → new_with settings old.done ≡ Some capacity → Sheds old new count →
      PassedBy 1 (clocks.moments old.clock) (clocks.moments new.clock) → new.seat ≡ old.seat → new.in_force ≡ capacity →
      (new.control ≡ old.control) × (new.class ≡ old.class) × (new.done ≡ old.done) × (new.stopped ≡ old.stopped) → HasBegun ports clocks settings config old new
  begun_changed settings old new capacity count some sends passed seat in_force rest =
      let begins : begins_changed settings old.done ≡ true = begins_is settings old.done ∙ ap is_some some in
      record {
        changed = sends.0;
        resized = subst (λ m. HasResized ports clocks config m sends.0 old.sequence new.sequence (taking_of old) (taking_of new)) (sym (ap moments_if begins))
            (resized_by old new count 1 sends passed seat);
        unchanged = λ is. let never : true ≡ false = sym begins ∙ is in absurd (cc never);
        seat = seat;
        in_force = in_force ∙ sym (ap (later_of old.in_force) some);
        done = rest.2;
        class = rest.1;
        control = rest.0;
        stopped = rest.3;
      }

  -- ---- orders

  pub executed_class : (class : ℕ) (old new : ControlLane P C G R) (reply : Reply) → old.sequence < 65536 → reply ≡ reply_to (orders.Class class) [] →
      PassedBy 1 (clocks.moments old.clock) (clocks.moments new.clock) → new ≡ record old { clock = new.clock; class = class } →
      HasExecuted ports clocks config (orders.Class class) old new reply
  executed_class class old new reply small replied passed is = record {
    shed = [];
    resized = record {
      moved = moved_ticked ports clocks config 1 (taking_of old) (taking_of new) (ap (λ (l : ControlLane P C G R). l.port) is) (ap (λ (l : ControlLane P C G R). l.seat) is)
          (ap (λ (l : ControlLane P C G R). l.tally.sent) is) (ap (λ (l : ControlLane P C G R). l.tally.failed) is) passed;
      sequence_is = ap (λ (l : ControlLane P C G R). l.sequence) is ∙ sym (none_on old.sequence small);
    };
    kept = λ none. refl;
    replied = replied;
    seat = ap (λ (l : ControlLane P C G R). l.seat) is;
    in_force = ap (λ (l : ControlLane P C G R). l.in_force) is;
    class = ap (λ (l : ControlLane P C G R). l.class) is;
    done = ap (λ (l : ControlLane P C G R). l.done) is;
    control = ap (λ (l : ControlLane P C G R). l.control) is;
    stopped = λ going. ap (λ (l : ControlLane P C G R). l.stopped) is ∙ going;
  }

  pub executed_capacity : (capacity count : ℕ) (old new : ControlLane P C G R) (reply : Reply) (sends : Sheds old new count) → reply ≡ reply_to (orders.Capacity capacity) sends.0 →
      PassedBy 1 (clocks.moments old.clock) (clocks.moments new.clock) → new.seat ≡ old.seat → new.in_force ≡ capacity →
      (new.control ≡ old.control) × (new.class ≡ old.class) × (new.done ≡ old.done) × (new.stopped ≡ old.stopped) →
      HasExecuted ports clocks config (orders.Capacity capacity) old new reply
  executed_capacity capacity count old new reply sends replied passed seat in_force rest = record {
    shed = sends.0;
    resized = resized_by old new count 1 sends passed seat;
    kept = λ none. absurd (cc none);
    replied = replied;
    seat = seat;
    in_force = in_force;
    class = rest.1;
    done = rest.2;
    control = rest.0;
    stopped = λ going. rest.3 ∙ going;
  }

  -- a stop that cancels puts no capacity in force, and then ends the rounds
  pub executed_cancel : (count : ℕ) (old middle : ControlLane P C G R) (reply : Reply) (sends : Sheds old middle count) → reply ≡ reply_to (orders.Stop true) sends.0 →
      PassedBy 1 (clocks.moments old.clock) (clocks.moments middle.clock) → middle.seat ≡ old.seat → middle.in_force ≡ 0 →
      (middle.control ≡ old.control) × (middle.class ≡ old.class) × (middle.done ≡ old.done) × (middle.stopped ≡ old.stopped) →
      HasExecuted ports clocks config (orders.Stop true) old (record middle { stopped = true }) reply
  executed_cancel count old middle reply sends replied passed seat in_force rest = record {
    shed = sends.0;
    resized = resized_by old middle count 1 sends passed seat;
    kept = λ none. absurd (cc none);
    replied = replied;
    seat = seat;
    in_force = in_force;
    class = rest.1;
    done = rest.2;
    control = rest.0;
    stopped = λ going. refl;
  }

  pub executed_stop : (old : ControlLane P C G R) (reply : Reply) → old.sequence < 65536 → reply ≡ reply_to (orders.Stop false) [] →
      HasExecuted ports clocks config (orders.Stop false) old (record old { stopped = true }) reply
  executed_stop old reply small replied = record {
    shed = [];
    resized = record { moved = moved_none ports clocks config (taking_of old); sequence_is = sym (none_on old.sequence small) };
    kept = λ none. refl;
    replied = replied;
    seat = refl;
    in_force = refl;
    class = refl;
    done = refl;
    control = refl;
    stopped = λ going. refl;
  }

  -- ---- what is obeyed behind a meeting

  pub obeyed_none : (lane : ControlLane P C G R) → lane.sequence < 65536 → HasObeyed ports clocks config None lane lane
  obeyed_none lane small = record {
    shed = [];
    resized = record { moved = moved_none ports clocks config (taking_of lane); sequence_is = sym (none_on lane.sequence small) };
    kept = λ none. refl;
    reply = None;
    replied = refl;
    spoke = spoken_none ports lane.control;
    seat = refl;
    in_force = refl;
    class = refl;
    done = refl;
    stopped = λ going. going;
  }

  -- an order was executed, and its answer was handed to the control port
  pub obeyed_one : (order : Order) (old middle new : ControlLane P C G R) (reply : Reply) → HasExecuted ports clocks config order old middle reply →
      new ≡ record middle { control = new.control } → SpokenTo ports [] (answer_sent reply ∷ []) middle.control new.control → HasObeyed ports clocks config (Some order) old new
  obeyed_one order old middle new reply e is spoke =
      let same : HasObeyed ports clocks config (Some order) old (record middle { control = new.control }) = record {
        shed = e.shed;
        resized = record { moved = e.resized.moved; sequence_is = e.resized.sequence_is };
        kept = e.kept;
        reply = Some reply;
        replied = ap Some e.replied;
        spoke = subst (λ c. SpokenTo ports [] (answer_sent reply ∷ []) c new.control) e.control spoke;
        seat = e.seat;
        in_force = e.in_force;
        class = e.class;
        done = e.done;
        stopped = e.stopped;
      } in
      subst (HasObeyed ports clocks config (Some order) old) (sym is) same

-- ---- no greater capacity than may come into force

pub new_within : (settings : GmSettings) (before capacity : ℕ) → new_with settings before ≡ Some capacity → before < all_rounds settings → capacity ≤ peak_capacity settings
new_within settings before capacity some few = of (settings.change_round == before + 1) refl some
  where
    greatest : (change : Option ℕ) → change ≡ Some capacity → capacity ≤ greater_of settings.capacity change
    greatest None is = absurd (cc is)
    greatest (Some later) is = let same : later ≡ capacity = cc is in omega (arith, same)

    of : (b : Bool) → (settings.change_round == before + 1) ≡ b → (if b then settings.new_capacity else None) ≡ Some capacity → capacity ≤ peak_capacity settings
    of false other is = absurd (cc is)
    of true same is =
        let round : settings.change_round ≡ before + 1 = eqb-true settings.change_round (before + 1) same in
        let change : change_of settings ≡ Some capacity =
        ap₂ (λ a b. if a && b then settings.new_capacity else None) (lt-ltb 0 settings.change_round (omega (arith, round))) (le-leb settings.change_round (all_rounds settings) (omega (arith, round, few))) ∙ is in
        greatest (change_of settings) change

-- nor than by the settings, or by orders where they may come
pub ordered_within : (told : Bool) (settings : GmSettings) (capacity : ℕ) → capacity ≤ peak_capacity settings → capacity ≤ greatest_capacity → capacity ≤ peak_ordered told settings
ordered_within true settings capacity few all = all
ordered_within false settings capacity few all = few

-- nor does the opening have a greater one
pub opened_within : (told : Bool) (settings : GmSettings) → settings.capacity ≤ greatest_capacity → settings.capacity ≤ peak_ordered told settings
opened_within true settings few = few
opened_within false settings few = of (change_of settings)
  where
    of : (change : Option ℕ) → settings.capacity ≤ greater_of settings.capacity change
    of None = omega arith
    of (Some later) = omega arith
