use Rattle.std.proofs.Common.{◌∙◌, ◌++◌, ap}
use Rattle.ptu_history.specs.{Turns.{due_grants}, Shedding.{shed_grants}, Step.{verdict_records}}
use Rattle.ptu_history.specs.Counts.{counts}
use Rattle.ptu_history.proofs.Counts.{counts-asked, counts-empty, counts-ended, counts-granted, counts-nothing, counts-sent, counts-shed, counts-short}
use Rattle.ptu_history.proofs.laws.counting.Goals as goal

pub returns : goal.returns
returns _ = record {
  none = counts-empty;
  granted = λ config history x c k l seconds until ask e. ap (λ v. counts (history ++ verdict_records x c v)) e ∙ counts-granted history x c k l until;
  short = λ config history x c k l others rate capacity ask e. ap (λ v. counts (history ++ verdict_records x c v)) e ∙ counts-short history x c;
  outside = λ config history x c cause ask e. ap (λ v. counts (history ++ verdict_records x c v)) e ∙ counts-nothing history;
  cancel = λ config. counts-ended;
  turn = λ config history x j. counts-sent history x j (due_grants history x j);
  delay_req = λ config. counts-asked;
  resize = λ config history x capacity. counts-shed history x capacity (shed_grants history x capacity);
}
