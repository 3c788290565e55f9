-- That a table has taken a turn.
use Rattle.std.proofs.Common.{◌≡◌, ◌∙◌, ℕ, suc, zero, ◌<◌, List, ◌++◌, map, sym, ap, arith}
use Rattle.std.proofs.lemmas.Simd.{map-map}
use Rattle.ptu_outside.specs.{declared.port.Port.{Ghosts as Ports}, Departure.{Departure}}
use Rattle.ptu_outside.specs.HandsOver.{HandsOver}
use Rattle.ptu_history.specs.Core.{core_step, history_after, table_step_moment}
use Rattle.ptu_history.specs.Events as events
use Rattle.ptu_history.specs.{History.{Record}, Live.{Grant}, Turns.{due_grants, message_of}}
use Rattle.ptu_shard.specs.{Messages.{departure_of}, Turn.{due_messages}}
use Rattle.ptu_gm_messages.specs.Deciding.{opened_with}
use Rattle.ptu_grandmaster.specs.declared.driving.GmEvent.TheVariants.{Turn}
use Rattle.ptu_grandmaster.specs.Gm.{KeptGm, StandsFor, five_ports, table_at, with_table}
use Rattle.ptu_daemon.specs.{Ran.{AllHandled, Does, Handled}, Sends.{by}}
use Rattle.ptu_daemon.proofs.Handling.{all_same, five_handled, handled_same, hands_handled}

module _ {P : Type 0} (ports : Ports P) where
  -- of a grandmaster one table has changed
  pub table_handled : (j : ℕ) (old new : KeptGm P) (sends : List Departure) (sent failed : ℕ) → j < 4 → new ≡ with_table j (table_at j new) old →
      Handled ports sends sent failed 0 (table_at j old).port (table_at j new).port →
      AllHandled ports (λ i. by i j sends) 0 sent failed 0 (five_ports old) (five_ports new)
  table_handled zero old new sends sent failed below rest h =
      five_handled ports (λ i. by i 0 sends) old new sent failed 0 0 0 0 0 0 0 0 0 sent failed h
      (handled_same ports _ _ (ap (λ g. g.s1.port) rest)) (handled_same ports _ _ (ap (λ g. g.s2.port) rest)) (handled_same ports _ _ (ap (λ g. g.s3.port) rest))
      (handled_same ports _ _ (ap (λ g. g.reply) rest)) (omega arith) (omega arith)
  table_handled (suc zero) old new sends sent failed below rest h =
      five_handled ports (λ i. by i 1 sends) old new 0 0 sent failed 0 0 0 0 0 0 0 sent failed
      (handled_same ports _ _ (ap (λ g. g.s0.port) rest)) h (handled_same ports _ _ (ap (λ g. g.s2.port) rest)) (handled_same ports _ _ (ap (λ g. g.s3.port) rest))
      (handled_same ports _ _ (ap (λ g. g.reply) rest)) (omega arith) (omega arith)
  table_handled (suc (suc zero)) old new sends sent failed below rest h =
      five_handled ports (λ i. by i 2 sends) old new 0 0 0 0 sent failed 0 0 0 0 0 sent failed
      (handled_same ports _ _ (ap (λ g. g.s0.port) rest)) (handled_same ports _ _ (ap (λ g. g.s1.port) rest)) h (handled_same ports _ _ (ap (λ g. g.s3.port) rest))
      (handled_same ports _ _ (ap (λ g. g.reply) rest)) (omega arith) (omega arith)
  table_handled (suc (suc (suc zero))) old new sends sent failed below rest h =
      five_handled ports (λ i. by i 3 sends) old new 0 0 0 0 0 0 sent failed 0 0 0 sent failed
      (handled_same ports _ _ (ap (λ g. g.s0.port) rest)) (handled_same ports _ _ (ap (λ g. g.s1.port) rest)) (handled_same ports _ _ (ap (λ g. g.s2.port) rest)) h
      (handled_same ports _ _ (ap (λ g. g.reply) rest)) (omega arith) (omega arith)
  table_handled (suc (suc (suc (suc j)))) old new sends sent failed below rest h = absurd (omega arith)

  -- the settings and the port of the Signaling messages have not
  pub table_beside : (j : ℕ) (old new : KeptGm P) → j < 4 → new ≡ with_table j (table_at j new) old → (new.config ≡ old.config) × (new.reply ≡ old.reply)
  table_beside zero old new below rest = (ap (λ g. g.config) rest, ap (λ g. g.reply) rest)
  table_beside (suc zero) old new below rest = (ap (λ g. g.config) rest, ap (λ g. g.reply) rest)
  table_beside (suc (suc zero)) old new below rest = (ap (λ g. g.config) rest, ap (λ g. g.reply) rest)
  table_beside (suc (suc (suc zero))) old new below rest = (ap (λ g. g.config) rest, ap (λ g. g.reply) rest)
  table_beside (suc (suc (suc (suc j)))) old new below rest = absurd (omega arith)

  pub turn_does : (t j at sent failed : ℕ) (old new : KeptGm P) → j < 4 →
      HandsOver ports (table_at j old).port (table_at j new).port
      (map (departure_of old.config at) (due_messages at (table_at j old).rows)) sent failed →
      new ≡ with_table j (table_at j new) old →
      ((opening : ℕ) (history : List Record) → StandsFor opening old history →
      (at ≡ table_step_moment history t j) × (due_messages at (table_at j old).rows ≡ map (message_of history) (due_grants history at j))) →
      ((opening : ℕ) (history : List Record) → StandsFor opening old history →
      StandsFor opening new (history ++ (core_step (opened_with opening old.config) history t (events.Turn j)).records)) →
      Does ports old new (Turn t j) sent failed
  unfolding history_after
  turn_does t j at sent failed old new below sends rest messages stands = record {
    config = (table_beside j old new below rest).0;
    waiting = ap ports.waiting (table_beside j old new below rest).1;
    does = λ opening past stood. (
      stands opening past stood,
      all_same ports (λ i. by i j (map (departure_of old.config at) (due_messages at (table_at j old).rows))) _ 0 sent failed 0 (five_ports old) (five_ports new)
          (λ i. ap (by i j) (sym (are opening past stood)))
          (table_handled j old new _ sent failed below rest (hands_handled ports _ _ _ sent failed sends)),
    );
  }
    where
      are : (opening : ℕ) (past : List Record) → StandsFor opening old past →
          map (departure_of old.config at) (due_messages at (table_at j old).rows)
          ≡ map (λ (g : Grant). departure_of old.config (table_step_moment past t j) (message_of past g)) (due_grants past (table_step_moment past t j) j)
      are opening past stood =
          ap (map (departure_of old.config at)) (messages opening past stood).1
          ∙ map-map (departure_of old.config at) (message_of past) (due_grants past at j)
          ∙ ap (λ x. map (λ (m : Grant). departure_of old.config x (message_of past m)) (due_grants past x j)) (messages opening past stood).0
