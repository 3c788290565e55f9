-- A round of the lane that takes Signaling, from its parts.
use Rattle.std.proofs.Common.{◌≡◌, ◌∙◌, ℕ, ◌+◌, ◌≤◌, Bool, true, List, [], ◌++◌, length, refl, sym, ap, subst, arith, Option, Some, None, Result}
use Rattle.std.specs.Prelude.{IfSome, is_some}
use Rattle.std.proofs.lemmas.List.{append-nil}
use Rattle.ptu_units.specs.declared.{client.Client.{Client}, kind.Kind.{Kind}}
use Rattle.ptu_outside.specs.declared.{arrival.Arrival.{Arrival}, clock.Clock.{Ghosts as Clocks}, port.Port.{Ghosts as Ports}}
use Rattle.ptu_outside.specs.Faults.{HasRisen}
use Rattle.ptu_units.specs.Limits.{greatest_capacity}
use Rattle.ptu_outside.specs.{Departure.{Departure}, Rounds.{most}}
use Rattle.ptu_outside.proofs.HandsOver.{rises_first, rises_second}
use Rattle.ptu_profile.specs.declared.grandmaster.GmConfig.{GmConfig}
use Rattle.ptu_shared.specs.Seats.{SeatCounts}
use Rattle.ptu_gm_messages.specs.Replies.{cancels_to}
use Rattle.ptu_config.specs.declared.{settings.GmSettings.{GmSettings}, answer.Reply.{Reply}, command.Cause.{Cause}, command.Command.{Command}}
use Rattle.ptu_lanes.specs.declared.{lanes.ControlLane.{ControlLane}, orders.Order.{Order}}
use Rattle.ptu_lanes.specs.Changing.{begins_changed, later_of, new_with}
use Rattle.ptu_lanes.specs.Heard.{AnswersNow, Hears, IsReply, Leaves, SpokenTo, reply_sent}
use Rattle.ptu_lanes.specs.Orders.{LaneAt, LaneRound, capacity_by, class_by, left_of, listed, moments_by, moments_if, order_in, peak_ordered, sequence_on, stops_by}
use Rattle.ptu_lanes.specs.Rounds.{Exchange, datagrams, replies}
use Rattle.ptu_lanes.specs.Stretches.{DidLaneRound, HasBegun, HasHeard, HasObeyed, RepliesTo, TookSignaling, lane_at, taking_of}
use Rattle.ptu_lanes.specs.Waiting.{GaveFirst}
use Rattle.ptu_lanes.proofs.{Hearing.{ordered_told, replied_by, spoken-append, spoken_as}, Moving.{moved-append, moved_as}}

-- what was answered: at once, or behind the meeting
abbrev pub reply_of : Option Order → Option Reply → Option Reply → Option Reply
reply_of None now then = now
reply_of (Some order) now then = then

reply_is : (order : Option Order) (asked : Option (Result Command Cause)) (round class in_force : ℕ) (shed : List (Client × Kind)) (now then : Option Reply) →
    order ≡ left_of asked → AnswersNow round class in_force asked order now → RepliesTo order shed then → (capacity_by order ≡ None → shed ≡ []) →
    IsReply round class in_force shed asked (reply_of order now then)
reply_is None asked round class in_force shed now then left at_once later kept = subst (λ s. IsReply round class in_force s asked now) (sym (kept refl)) at_once
reply_is (Some order) asked round class in_force shed now then left at_once later kept = replied_by round class in_force shed asked order then left later

replies_are : (order : Option Order) (asked : Option (Result Command Cause)) (round class in_force : ℕ) (shed : List (Client × Kind)) (now then : Option Reply) →
    AnswersNow round class in_force asked order now → RepliesTo order shed then → reply_sent now ++ reply_sent then ≡ reply_sent (reply_of order now then)
replies_are None asked round class in_force shed now then at_once later =
    ap (λ t. reply_sent now ++ reply_sent t) later ∙ append-nil (reply_sent now)
replies_are (Some order) asked round class in_force shed now then at_once later =
    ap (λ n. reply_sent n ++ reply_sent then) at_once

-- what a port gave stays the first that waited, where nothing was taken before and behind it
gave_between : (n : ℕ) (told0 told1 told2 told3 : Option (List Arrival)) → IfSome told1 (λ later. told0 ≡ Some (datagrams [] ++ later)) → GaveFirst n told1 told2 →
    IfSome told3 (λ later. told2 ≡ Some (datagrams [] ++ later)) → GaveFirst n told0 told3
gave_between n told0 told1 told2 None before gave behind = tt
gave_between n told0 told1 None (Some later) before gave behind = absurd (cc behind)
gave_between n told0 None (Some left) (Some later) before gave behind = absurd (cc gave.1)
gave_between n told0 (Some waited) (Some left) (Some later) before gave behind =
    let same : left ≡ later = cc behind in
    let first : waited ≡ gave.0 = cc gave.1 in
    (gave.0, before ∙ ap Some first, sym same ∙ gave.2)

module _ {P C G R : Type 0} (ports : Ports P) (clocks : Clocks C) (greatest : ℕ) (settings : GmSettings) (config : GmConfig) where
  pub round_is : (l0 l1 l2 l3 : ControlLane P C G R) (order : Option Order) → HasBegun ports clocks settings config l0 l1 →
      HasHeard ports clocks greatest settings config l1 l2 order → HasObeyed ports clocks config order l2 l3 →
      DidLaneRound ports clocks greatest settings config l0 (record l3 { done = l3.done + 1 })
  round_is l0 l1 l2 l3 order b h o = record {
    round = r;
    is = record {
      few = h.took.few;
      answered = h.took.answered;
      unchanged = b.unchanged;
      kept = λ none. o.kept (ap capacity_by h.left ∙ none);
      replied = replied;
    };
    at = λ t. record {
      before = before t;
      sequence = sequence t;
      class = class t;
      in_force = in_force t;
    };
    missed = h.took.missed;
    once = h.took.once;
    moved = moved_as ports clocks config (([] ++ x) ++ []) x _ _ _ _ _ _ (taking_of l0) (taking_of l3) (append-nil x) sends moments none_more
        (moved-append ports clocks config ([] ++ x) [] _ _ _ _ _ _ (taking_of l0) (taking_of l2) (taking_of l3)
        (moved-append ports clocks config [] x _ _ _ _ _ _ (taking_of l0) (taking_of l1) (taking_of l2) b.resized.moved h.took.moved) o.resized.moved);
    front = λ still. gave_between most (ports.waiting l0.port) (ports.waiting l1.port) (ports.waiting l2.port) (ports.waiting l3.port) b.resized.moved.given
        (h.took.front (still_between still)) o.resized.moved.given;
    most =
        let m = h.took.most in
        omega (arith, m, ap (λ (s : SeatCounts). s.granted) b.seat, ap (λ (s : SeatCounts). s.refused) b.seat, ap (λ (s : SeatCounts). s.granted) o.seat, ap (λ (s : SeatCounts). s.refused) o.seat);
    spoke = subst (λ c. SpokenTo ports (listed h.spoken) (reply_sent r.reply) c l3.control) b.control
        (spoken_as ports (listed h.spoken ++ []) (listed h.spoken) (reply_sent h.reply ++ reply_sent o.reply) (reply_sent r.reply) l1.control l3.control (append-nil (listed h.spoken))
        (replies_are order (order_in settings h.spoken) _ _ _ o.shed h.reply o.reply h.now o.replied)
        (spoken-append ports (listed h.spoken) [] (reply_sent h.reply) (reply_sent o.reply) l1.control l2.control l3.control h.spoke o.spoke));
    stopped = λ going. o.stopped (h.took.beside.stopped ∙ b.stopped ∙ going) ∙ ap stops_by h.left;
  }
    where
      x : List Exchange
      x = h.took.exchanges

      r : LaneRound
      r = record { changed = b.changed; exchanges = x; spoken = h.spoken; shed = o.shed; reply = reply_of order h.reply o.reply }

      done_is : l2.done ≡ l0.done
      done_is = ap (λ (a : LaneAt). a.before) h.took.beside.at ∙ b.done

      sequence_is : l2.sequence ≡ sequence_on l0.sequence b.changed
      sequence_is = ap (λ (a : LaneAt). a.sequence) h.took.beside.at ∙ b.resized.sequence_is

      class_is : l2.class ≡ l0.class
      class_is = ap (λ (a : LaneAt). a.class) h.took.beside.at ∙ b.class

      in_force_is : l2.in_force ≡ later_of l0.in_force (new_with settings l0.done)
      in_force_is = ap (λ (a : LaneAt). a.in_force) h.took.beside.at ∙ b.in_force

      before : l3.done + 1 ≡ l0.done + 1
      before = ap (λ n. n + 1) (o.done ∙ done_is)

      sequence : l3.sequence ≡ sequence_on (sequence_on l0.sequence b.changed) o.shed
      sequence = o.resized.sequence_is ∙ ap (λ n. sequence_on n o.shed) sequence_is

      class : l3.class ≡ class_by l0.class (left_of (order_in settings h.spoken))
      class = o.class ∙ ap (λ n. class_by n order) class_is ∙ ap (class_by l0.class) h.left

      in_force : l3.in_force ≡ later_of (later_of l0.in_force (new_with settings l0.done)) (capacity_by (left_of (order_in settings h.spoken)))
      in_force = o.in_force ∙ ap (λ n. later_of n (capacity_by order)) in_force_is
          ∙ ap (λ (d : Option Order). later_of (later_of l0.in_force (new_with settings l0.done)) (capacity_by d)) h.left

      replied : IsReply (l0.done + 1) l0.class (later_of l0.in_force (new_with settings l0.done)) o.shed (order_in settings h.spoken) (reply_of order h.reply o.reply)
      replied =
          subst (λ n. IsReply (n + 1) l0.class (later_of l0.in_force (new_with settings l0.done)) o.shed (order_in settings h.spoken) (reply_of order h.reply o.reply)) b.done
          (subst (λ c. IsReply (l1.done + 1) c (later_of l0.in_force (new_with settings l0.done)) o.shed (order_in settings h.spoken) (reply_of order h.reply o.reply)) b.class
          (subst (λ f. IsReply (l1.done + 1) l1.class f o.shed (order_in settings h.spoken) (reply_of order h.reply o.reply)) b.in_force
          (reply_is order (order_in settings h.spoken) (l1.done + 1) l1.class l1.in_force o.shed h.reply o.reply h.left h.now o.replied o.kept)))

      sends : (cancels_to config l0.sequence b.changed ++ replies config x) ++ cancels_to config l2.sequence o.shed
          ≡ (cancels_to config l0.sequence b.changed ++ replies config x) ++ cancels_to config (sequence_on l0.sequence b.changed) o.shed
      sends = ap (λ n. (cancels_to config l0.sequence b.changed ++ replies config x) ++ cancels_to config n o.shed) sequence_is

      moments : (moments_if (begins_changed settings l0.done) + length x) + moments_by order
          ≡ moments_if (begins_changed settings l0.done) + length x + moments_by (left_of (order_in settings h.spoken))
      moments = ap (λ (d : Option Order). (moments_if (begins_changed settings l0.done) + length x) + moments_by d) h.left

      none_more : (0 + h.took.missed) + 0 ≡ h.took.missed
      none_more = omega arith

      still_between : ¬ HasRisen (ports.faults l0.port) (ports.faults l3.port) → ¬ HasRisen (ports.faults l1.port) (ports.faults l2.port)
      still_between still rises = still (rises_second (ports.faults l0.port) (ports.faults l1.port) (ports.faults l3.port) b.resized.moved.faults.no_fall
          (rises_first (ports.faults l1.port) (ports.faults l2.port) (ports.faults l3.port) rises o.resized.moved.faults.no_fall))

  -- what was taken of Signaling, and then heard, and answered or left
  pub heard_is : (old l1 l2 l3 : ControlLane P C G R) (asked : Option (Result Command Cause)) (order : Option Order) → TookSignaling ports clocks greatest config old l1 →
      l1.control ≡ old.control → Hears ports settings l1.control l2.control asked → l2 ≡ record l1 { control = l2.control } →
      Leaves ports asked l2.done l2.class l2.in_force l2.control l3.control order → l3 ≡ record l2 { control = l3.control } →
      HasHeard ports clocks greatest settings config old l3 order
  heard_is old l1 l2 l3 asked order t control (spoken, asks, heard) second (reply, left, now, answered) third = record {
    took = subst (TookSignaling ports clocks greatest config old) (sym all) (record {
      exchanges = t.exchanges;
      few = t.few;
      answered = t.answered;
      missed = t.missed;
      once = t.once;
      moved = t.moved;
      front = t.front;
      most = t.most;
      beside = record { at = t.beside.at; stopped = t.beside.stopped };
    });
    spoken = spoken;
    reply = reply;
    spoke = subst (λ c. SpokenTo ports (listed spoken) (reply_sent reply) c l3.control) control
        (spoken_as ports (listed spoken ++ []) (listed spoken) ([] ++ reply_sent reply) (reply_sent reply) l1.control l3.control (append-nil (listed spoken)) refl
        (spoken-append ports (listed spoken) [] [] (reply_sent reply) l1.control l2.control l3.control heard answered));
    left = left ∙ ap left_of asks;
    now = subst (λ a. AnswersNow (old.done + 1) old.class old.in_force a order reply) asks
        (subst (λ (a : LaneAt). AnswersNow (a.before + 1) a.class a.in_force asked order reply) (ap lane_at second ∙ t.beside.at) now);
  }
    where
      all : l3 ≡ record l1 { control = l3.control }
      all = third ∙ ap (λ (l : ControlLane P C G R). record l { control = l3.control }) second

module _ {P : Type 0} (ports : Ports P) (settings : GmSettings) where
  -- an order comes only where orders may come, and puts no greater capacity in force than may be
  pub order_may : (told : Bool) (highest : ℕ) (spoken : Option Arrival) (answers : List Departure) (a b : Option P) (order : Option Order) → order ≡ left_of (order_in settings spoken) →
      SpokenTo ports (listed spoken) answers a b → told ≡ is_some a → highest ≡ peak_ordered told settings →
      IfSome order (λ o. (told ≡ true) × (greatest_capacity ≤ highest))
  order_may told highest spoken answers a b None left spoke is peak = tt
  order_may told highest spoken answers a b (Some order) left spoke is peak =
      let may : told ≡ true = is ∙ ordered_told ports settings spoken order answers a b left spoke in
      let highest_is : highest ≡ greatest_capacity = peak ∙ ap (λ t. peak_ordered t settings) may in
      (may, omega (arith, highest_is))
