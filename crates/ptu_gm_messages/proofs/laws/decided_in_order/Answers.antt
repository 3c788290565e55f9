use Rattle.ptu_gm_messages.proofs.Placing.{decisions_of-push, placed-none, placed-push}
use Rattle.ptu_gm_messages.proofs.laws.decided_in_order.Goals as goal

pub returns-clause-none : goal.returns-clause-none
returns-clause-none c = placed-none

pub returns-clause-one_more : goal.returns-clause-one_more
returns-clause-one_more c = λ opened history t client items item. placed-push opened t history client items item

pub returns-clause-decision : goal.returns-clause-decision
returns-clause-decision c = λ opened history t client items item. decisions_of-push opened t history client items item
