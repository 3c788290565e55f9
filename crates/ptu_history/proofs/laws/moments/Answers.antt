use Rattle.ptu_units.specs.Client.{table_of}
use Rattle.ptu_history.proofs.Moments.{book_step_moment-is, table_step_moment-is}
use Rattle.ptu_history.proofs.laws.moments.Goals as goal

pub returns : goal.returns
returns _ = record {
  request = λ history t c ask. table_step_moment-is history t (table_of c);
  cancel = λ history t c k. table_step_moment-is history t (table_of c);
  turn = table_step_moment-is;
  delay_req = λ history t c. table_step_moment-is history t (table_of c);
  resize = λ history t capacity. book_step_moment-is history t;
}
