use Rattle.ptu_world.proofs.Turning.{one_turn, turns_taken}
use Rattle.ptu_world.proofs.promises.turns.Goals as goal

pub returns : goal.returns
returns _ = record {
  taken = λ stock script w ip g h table. turns_taken stock script w ip g h table;
  one = λ w ip g t table node. one_turn w ip g t table node;
}
