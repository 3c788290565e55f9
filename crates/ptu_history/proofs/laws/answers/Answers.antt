use Rattle.std.proofs.{Common.{◌∙◌, refl, ap}, lemmas.Bool.{le-ltb, lt-ltb}}
use Rattle.ptu_history.specs.Events.{Cancelled, Responded}
use Rattle.ptu_history.proofs.AfterSteps.{answer-early, answer-lawful, answer-none, live-last}
use Rattle.ptu_history.proofs.laws.answers.Goals as goal

pub returns : goal.returns
returns _ = record {
  cancel = λ config history x c k. refl;
  cancel_live = λ config history n x c k l u last before. ap Cancelled (live-last history n x c k l u last ∙ lt-ltb x u before);
  cancel_over = λ config history n x c k l u last over. ap Cancelled (live-last history n x c k l u last ∙ le-ltb x u over);
  answered = λ config history x c is due. ap Responded (answer-lawful history x c is due);
  too_soon = λ config history x c is early. ap Responded (answer-early history x c is early);
  no_grant = λ config history x c none. ap Responded (answer-none history x c none);
}
