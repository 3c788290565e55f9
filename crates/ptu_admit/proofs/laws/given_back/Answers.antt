use Rattle.ptu_admit.proofs.Lending.{one_lent}
use Rattle.ptu_admit.proofs.laws.given_back.Goals as goal

pub returns : goal.returns
returns _ = λ opening t rest book history s. one_lent opening t rest book history s
