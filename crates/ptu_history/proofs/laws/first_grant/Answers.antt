use Rattle.ptu_history.proofs.Renewals.{chain_is, earliest_new, first_continues, root_is, sequence_is}
use Rattle.ptu_history.proofs.laws.first_grant.Goals as goal

pub returns : goal.returns
returns _ = record {
  root = λ history n c k l u e. root_is history n c k l u _ e;
  chain = λ history n c k l u e. chain_is history n c k l u _ (first_continues history n c k l u e);
  earliest = λ history n c k l u e. earliest_new history n c k l u (first_continues history n c k l u e);
  sequence = λ history n c k l u e. sequence_is history n c k l u _ e;
}
