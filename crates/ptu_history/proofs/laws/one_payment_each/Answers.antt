use Rattle.ptu_history.proofs.PaymentLists.{messages-paid, payments-none, payments-sent}
use Rattle.ptu_history.proofs.laws.one_payment_each.Goals as goal

pub returns : goal.returns
returns _ = record {
  messages = messages-paid;
  one_more = payments-sent;
  no_more = payments-none;
}
