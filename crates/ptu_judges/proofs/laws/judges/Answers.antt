use Rattle.std.proofs.Common.{[], refl}
use Rattle.ptu_judges.proofs.Holding.{fresh_stands, fresh_takes_over, other_entry, stock_fresh, unruled}
use Rattle.ptu_judges.proofs.laws.judges.Goals as goal

pub returns-clause-fresh : goal.returns-clause-fresh
returns-clause-fresh c = fresh_stands

pub returns-clause-at_the_opening : goal.returns-clause-at_the_opening
returns-clause-at_the_opening c = λ held is. fresh_stands held.rule [] held is refl refl

pub returns-clause-takes_over : goal.returns-clause-takes_over
returns-clause-takes_over c = fresh_takes_over

pub returns-clause-others : goal.returns-clause-others
returns-clause-others c = other_entry

pub returns-clause-stock : goal.returns-clause-stock
returns-clause-stock c = stock_fresh

pub returns-clause-without_rule : goal.returns-clause-without_rule
returns-clause-without_rule c = unruled
