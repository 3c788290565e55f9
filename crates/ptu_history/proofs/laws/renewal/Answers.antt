use Rattle.ptu_history.proofs.Renewals.{chain_is, earliest_new, earliest_same, other_continues, root_is, same_continues, sequence_is}
use Rattle.ptu_history.proofs.laws.renewal.Goals as goal

pub returns : goal.returns
returns _ = record {
  same_chain = λ history m n c k l u v last before. chain_is history n c k l v _ (same_continues history n c k l v m u last before);
  same_earliest = λ history m n c k l u v last before. earliest_same history n c k l v m u last before;
  new_chain = λ history m n c k l l' u v last differ. chain_is history n c k l' v _ (other_continues history n c k l' v m l u last differ);
  new_earliest = λ history m n c k l l' u v last differ. earliest_new history n c k l' v (other_continues history n c k l' v m l u last differ);
  root = λ history n c k l u e. root_is history n c k l u _ e;
  counts_on = λ history n c k l u e. sequence_is history n c k l u _ e;
}
