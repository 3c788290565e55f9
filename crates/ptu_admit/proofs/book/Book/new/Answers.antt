use Rattle.std.proofs.Common.{rules, sym, arith}
use Rattle.ptu_history.specs.{History.{capacity_in_force}, Moments.{book_moment}}
use Rattle.ptu_admit.proofs.Lending.{none_elsewhere}
use Rattle.ptu_admit.proofs.book.Book.new.Goals as goal

pub returns-clause-stands : goal.returns-clause-stands
unfolding book_moment capacity_in_force
returns-clause-stands c = λ lent each none. record {
  tables = each;
  moment = search rules;
  capacity = c.of.ensures;
  others = omega (arith, none, none_elsewhere lent 0);
  whole = λ all. sym none;
}
