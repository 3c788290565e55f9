use Rattle.std.proofs.Common.{refl}
use Rattle.ptu_history.specs.Shedding.{shed_grants}
use Rattle.ptu_history.proofs.AfterSteps.{capacity_in_force-resized, chain-resized, earliest-resized, last_decision-resized, live-resized, root-resized, sequence_number-resized, shed_grants-distinct, standing-resized}
use Rattle.ptu_history.proofs.Rates.{rates-fit, rates-rest}
use Rattle.ptu_history.proofs.laws.after_resize.Goals as goal

pub returns : goal.returns
returns _ = record {
  last_decision = λ config history x capacity c k. last_decision-resized history x capacity (shed_grants history x capacity) (shed_grants-distinct history x capacity) c k _ refl;
  live = λ config history x y capacity c k. live-resized history x capacity (shed_grants history x capacity) (shed_grants-distinct history x capacity) c k y _ refl;
  standing = λ config history x capacity. standing-resized history x capacity (shed_grants history x capacity);
  rest = λ config. rates-rest;
  fits = λ config. rates-fit;
  root = λ config history x capacity c k. root-resized history x capacity (shed_grants history x capacity) (shed_grants-distinct history x capacity) c k;
  chain = λ config history x capacity c k. chain-resized history x capacity (shed_grants history x capacity) (shed_grants-distinct history x capacity) c k;
  earliest = λ config history x capacity c k. earliest-resized history x capacity (shed_grants history x capacity) (shed_grants-distinct history x capacity) c k;
  sequence = λ config history x capacity c k. sequence_number-resized history x capacity (shed_grants history x capacity) (shed_grants-distinct history x capacity) c k;
  capacity = λ config opening history x capacity. capacity_in_force-resized history x capacity (shed_grants history x capacity) opening;
}
