-- That the capacity has changed.
use Rattle.std.proofs.Common.{◌≡◌, ℕ, List, ◌++◌, map, sym, ap, arith}
use Rattle.ptu_outside.specs.{declared.port.Port.{Ghosts as Ports}, Departure.{Departure}}
use Rattle.ptu_outside.specs.HandsOver.{HandsOver}
use Rattle.ptu_history.specs.Core.{book_step_moment, core_step, history_after}
use Rattle.ptu_history.specs.Events as events
use Rattle.ptu_history.specs.{History.{Record}, Shedding.{shed_grants}}
use Rattle.ptu_admit.specs.{declared.shed_list.Shed.{Shed}, Shed.{shed_of}}
use Rattle.ptu_gm_messages.specs.{Deciding.{opened_with}, Replies.{cancels_to}}
use Rattle.ptu_grandmaster.specs.declared.driving.GmEvent.TheVariants.{Capacity}
use Rattle.ptu_grandmaster.specs.{Changed.{leases_shed}, Gm.{KeptGm, StandsFor, five_ports}}
use Rattle.ptu_grandmaster.proofs.Cancels.{cancels_shed}
use Rattle.ptu_daemon.specs.{Ran.{AllHandled, Does, Handled}, Sends.{by}}
use Rattle.ptu_daemon.proofs.Handling.{all_same, five_handled, handled_same, hands_handled}

module _ {P : Type 0} (ports : Ports P) where
  -- the port of the Signaling messages alone was sent something
  pub reply_handled : (old new : KeptGm P) (sends : List Departure) (sent failed : ℕ) →
      (new.s0.port ≡ old.s0.port) × (new.s1.port ≡ old.s1.port) × (new.s2.port ≡ old.s2.port) × (new.s3.port ≡ old.s3.port) →
      Handled ports sends sent failed 0 old.reply new.reply →
      AllHandled ports (λ i. by i 4 sends) 0 sent failed 0 (five_ports old) (five_ports new)
  reply_handled old new sends sent failed (p0, p1, p2, p3) h =
      five_handled ports (λ i. by i 4 sends) old new 0 0 0 0 0 0 0 0 sent failed 0 sent failed
      (handled_same ports _ _ p0) (handled_same ports _ _ p1) (handled_same ports _ _ p2) (handled_same ports _ _ p3) h (omega arith) (omega arith)

  pub change_does : (t at capacity sent failed : ℕ) (shed : List Shed) (old new : KeptGm P) →
      HandsOver ports old.reply new.reply
      (cancels_to old.config old.sequence (leases_shed shed)) sent failed →
      (new.s0.port ≡ old.s0.port) × (new.s1.port ≡ old.s1.port) × (new.s2.port ≡ old.s2.port) × (new.s3.port ≡ old.s3.port) →
      new.config ≡ old.config →
      ((opening : ℕ) (history : List Record) → StandsFor opening old history →
      (at ≡ book_step_moment history t) × (shed ≡ map shed_of (shed_grants history at capacity))) →
      ((opening : ℕ) (history : List Record) → StandsFor opening old history →
      StandsFor opening new (history ++ (core_step (opened_with opening old.config) history t (events.Resize capacity)).records)) →
      Does ports old new (Capacity t capacity) sent failed
  unfolding history_after
  change_does t at capacity sent failed shed old new sends same config found stands = record {
    config = config;
    waiting = sends.waiting;
    does = λ opening past stood. (
      stands opening past stood,
      all_same ports (λ i. by i 4 (cancels_to old.config old.sequence (leases_shed shed))) _ 0 sent failed 0 (five_ports old) (five_ports new)
          (λ i. ap (by i 4) (sym (cancels_shed old.config old.sequence past at _ capacity shed stood.sequence (found opening past stood).0 (found opening past stood).1)))
          (reply_handled old new _ sent failed same (hands_handled ports _ _ _ sent failed sends)),
    );
  }
