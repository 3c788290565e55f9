use Rattle.std.proofs.Common.{refl}
use Rattle.ptu_history.specs.History.{Ended, Shed}
use Rattle.ptu_history.proofs.AfterSteps.{earliest-here, last_period-ended, last_period-shed, root-here, sequence_number-here}
use Rattle.ptu_units.proofs.Keys.{same_lease-refl}
use Rattle.ptu_history.proofs.laws.after_end.Goals as goal

pub returns : goal.returns
returns _ = record {
  cancel = λ config history x c k. refl;
  ended_root = λ history x c k. root-here history (Ended x c k) c k (same_lease-refl c k) refl refl refl;
  ended_sequence = λ history x c k. sequence_number-here history (Ended x c k) c k (same_lease-refl c k) refl refl refl;
  ended_earliest = λ history x c k. earliest-here history (Ended x c k) c k (same_lease-refl c k) refl refl refl (last_period-ended history x c k);
  shed_root = λ history x c k. root-here history (Shed x c k) c k (same_lease-refl c k) refl refl refl;
  shed_sequence = λ history x c k. sequence_number-here history (Shed x c k) c k (same_lease-refl c k) refl refl refl;
  shed_earliest = λ history x c k. earliest-here history (Shed x c k) c k (same_lease-refl c k) refl refl refl (last_period-shed history x c k);
}
