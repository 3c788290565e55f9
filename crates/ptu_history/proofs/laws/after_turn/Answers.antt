use Rattle.std.proofs.Common.{◌∷◌, map, refl}
use Rattle.ptu_history.specs.{History.{Looked}, Turns.{due_grants, sends, sent_record}}
use Rattle.ptu_history.proofs.AfterSteps.{capacity_in_force-quiet, chain-looked, due_of, earliest-turn, last_decision-looked, last_period-looked, live-looked, root-looked, sent_unchanged, sent_undecided, sequence_number-looked, standing-quiet}
use Rattle.ptu_history.proofs.Orders.{due_grants-distinct}
use Rattle.ptu_history.proofs.laws.after_turn.Goals as goal

pub returns : goal.returns
returns _ = record {
  sent = due_of;
  last_decision = λ config history x j c k. last_decision-looked history x j (due_grants history x j) (due_grants-distinct history x j) c k _ refl;
  live = λ config history x y j c k. live-looked history x j (due_grants history x j) (due_grants-distinct history x j) c k _ refl y;
  standing = λ config history x j. standing-quiet history (Looked x j ∷ map (sent_record x) (due_grants history x j)) (sent_undecided x (due_grants history x j));
  root = λ config history x j c k. root-looked history x j (due_grants history x j) (due_grants-distinct history x j) c k _ refl;
  chain = λ config history x j c k. chain-looked history x j (due_grants history x j) (due_grants-distinct history x j) c k _ refl;
  period = λ config history x j c k. last_period-looked history x j (due_grants history x j) (due_grants-distinct history x j) c k _ refl;
  earliest = λ config history x j c k. earliest-turn history x j c k;
  sequence = λ config history x j c k. sequence_number-looked history x j (due_grants history x j) (due_grants-distinct history x j) c k (sends history x j c k) (due_of history x j c k);
  capacity = λ config opening history x j. capacity_in_force-quiet opening history (Looked x j ∷ map (sent_record x) (due_grants history x j)) (sent_unchanged x (due_grants history x j));
}
