use Rattle.ptu_history.proofs.AfterSteps.{capacity_in_force-asked, chain-asked, earliest-asked, last_decision-asked, last_period-asked, live-asked, root-asked, sequence_number-asked, standing-asked}
use Rattle.ptu_history.proofs.laws.after_delay_req.Goals as goal

pub returns : goal.returns
returns _ = record {
  last_decision = λ config. last_decision-asked;
  live = λ config history x y c d k. live-asked history x c d k y;
  standing = λ config. standing-asked;
  root = λ config. root-asked;
  chain = λ config. chain-asked;
  period = λ config. last_period-asked;
  earliest = λ config. earliest-asked;
  sequence = λ config. sequence_number-asked;
  capacity = λ config opening history x c. capacity_in_force-asked history x c opening;
}
