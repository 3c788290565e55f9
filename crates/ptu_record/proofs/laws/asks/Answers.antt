use Rattle.ptu_record.specs.{Record.{Granted, Denied, Cancelled}, Asks.{refusal_moment}}
use Rattle.ptu_record.proofs.ListLaws.{last-filter_map}
use Rattle.ptu_record.proofs.Requests.{is_kind-self, answered_none, open_asks-push, asked_more, count_more, last_ask_more, gates_kept, second_after_ask, minute_after_third, minute_after_denial, minute_after_cancel, half_of_grant}
use Rattle.ptu_record.specs.Asks.{gates}
use Rattle.ptu_record.proofs.KindStates.{gate-kept, kind_state-push, maximum_all, maximum_any}
use Rattle.ptu_record.proofs.laws.asks.Goals as goal

pub returns-clause-asks_more : goal.returns-clause-asks_more
returns-clause-asks_more c = open_asks-push

pub returns-clause-asked : goal.returns-clause-asked
returns-clause-asked c = asked_more

pub returns-clause-refusal_more : goal.returns-clause-refusal_more
returns-clause-refusal_more c = λ k. last-filter_map (refusal_moment k)

pub returns-clause-a_second_after_an_ask : goal.returns-clause-a_second_after_an_ask
returns-clause-a_second_after_an_ask c = second_after_ask

pub returns-clause-a_minute_after_each_third : goal.returns-clause-a_minute_after_each_third
returns-clause-a_minute_after_each_third c = minute_after_third

pub returns-clause-a_minute_after_a_denial : goal.returns-clause-a_minute_after_a_denial
returns-clause-a_minute_after_a_denial c = minute_after_denial

pub returns-clause-a_minute_after_a_cancel : goal.returns-clause-a_minute_after_a_cancel
returns-clause-a_minute_after_a_cancel c = minute_after_cancel

pub returns-clause-half_of_the_duration : goal.returns-clause-half_of_the_duration
returns-clause-half_of_the_duration c = half_of_grant

pub returns-clause-other_kinds : goal.returns-clause-other_kinds
returns-clause-other_kinds c = gates_kept

pub returns-clause-count_more : goal.returns-clause-count_more
returns-clause-count_more c = count_more

pub returns-clause-last_more : goal.returns-clause-last_more
returns-clause-last_more c = last_ask_more

pub returns-clause-answered_by_grant : goal.returns-clause-answered_by_grant
returns-clause-answered_by_grant c = λ k L at m seconds. answered_none k L (Granted at m k seconds) (is_kind-self k)

pub returns-clause-answered_by_denial : goal.returns-clause-answered_by_denial
returns-clause-answered_by_denial c = λ k L at m. answered_none k L (Denied at m k) (is_kind-self k)

pub returns-clause-answered_by_cancel : goal.returns-clause-answered_by_cancel
returns-clause-answered_by_cancel c = λ k L at m. answered_none k L (Cancelled at m k) (is_kind-self k)

pub returns-clause-kept_more : goal.returns-clause-kept_more
returns-clause-kept_more c = kind_state-push

pub returns-clause-kept_gate : goal.returns-clause-kept_gate
returns-clause-kept_gate c = gate-kept

pub returns-clause-gate_is_there : goal.returns-clause-gate_is_there
returns-clause-gate_is_there c = λ k L t. maximum_any (gates k L t)

pub returns-clause-gate_is_greatest : goal.returns-clause-gate_is_greatest
returns-clause-gate_is_greatest c = λ k L t. maximum_all (gates k L t)
