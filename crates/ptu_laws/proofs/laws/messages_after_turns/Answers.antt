use Rattle.ptu_laws.proofs.Turned.{met-by-turn, met-in-each}
use Rattle.ptu_laws.proofs.laws.messages_after_turns.Goals as goal

pub returns : goal.returns
returns _ = record {
  by_turn = λ config events c k n l u y z kind last from there period before. met-by-turn config events c k n l u y z kind last from there period before;
  in_each = λ config events c k n l u between from to kind last begun within each. met-in-each config events c k n l u between from to kind last begun within each;
}
