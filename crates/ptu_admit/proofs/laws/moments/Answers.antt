use Rattle.ptu_admit.proofs.StepMoments.{moment-all, moment-one, moment-own}
use Rattle.ptu_admit.proofs.laws.moments.Goals as goal

pub returns : goal.returns
returns _ = record {
  one = λ opening t l rest book history s. moment-one opening t l rest book history s;
  own = λ opening t c lent book history s is. moment-own opening t c lent book history s is;
  all = λ opening t a b c d book history s ia ib ic id. moment-all opening t a b c d book history s ia ib ic id;
}
