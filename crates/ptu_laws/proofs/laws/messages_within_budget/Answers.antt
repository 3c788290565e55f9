use Rattle.ptu_laws.proofs.{Budget.{count-constant, count-within}, Bounds.{count-up_to, sent-up_to}}
use Rattle.ptu_laws.proofs.laws.messages_within_budget.Goals as goal

pub returns : goal.returns
returns _ = search (count-within, count-constant, count-up_to, sent-up_to)
