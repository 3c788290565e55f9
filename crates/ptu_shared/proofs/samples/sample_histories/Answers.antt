use Rattle.std.proofs.Common.{refl, arith}
use Rattle.ptu_history.specs.History.{lease_records}
use Rattle.ptu_history.specs.Live.{last_decision, live}
use Rattle.ptu_history.specs.Runs.{chain, sent_in_chain, sequence_number}
use Rattle.ptu_history.specs.Lawful.{earliest, last_period, lawful}
use Rattle.ptu_laws.specs.Sound.{last_sent}
use Rattle.ptu_shared.proofs.samples.sample_histories.Goals as goal

pub returns-clause-message_each_second : goal.returns-clause-message_each_second
unfolding lease_records last_decision live sent_in_chain chain last_period earliest lawful last_sent
returns-clause-message_each_second c = ((refl, omega arith), (refl, ((refl, refl), ((refl, refl), tt))))

pub returns-clause-message_too_soon : goal.returns-clause-message_too_soon
unfolding lease_records last_decision live sent_in_chain chain last_period earliest lawful last_sent
returns-clause-message_too_soon c = λ all. absurd (cc (all.1.1.0.1))

pub returns-clause-message_of_no_grant : goal.returns-clause-message_of_no_grant
unfolding lease_records last_decision live sent_in_chain chain last_period earliest lawful last_sent
returns-clause-message_of_no_grant c = λ all. absurd (cc (all.0.1))

pub returns-clause-message_behind_a_cancel : goal.returns-clause-message_behind_a_cancel
unfolding lease_records last_decision live sent_in_chain chain last_period earliest lawful last_sent
returns-clause-message_behind_a_cancel c = λ all. absurd (cc (all.1.1.0.1))

pub returns-clause-message_at_its_end : goal.returns-clause-message_at_its_end
unfolding lease_records last_decision live sent_in_chain chain last_period earliest lawful last_sent
returns-clause-message_at_its_end c = λ all. absurd (cc (all.1.0.1))

pub returns-clause-grant_of_another_table : goal.returns-clause-grant_of_another_table
returns-clause-grant_of_another_table c = λ all. absurd (omega (arith, all.0.0))

pub returns-clause-look_at_another_table : goal.returns-clause-look_at_another_table
returns-clause-look_at_another_table c = λ all. absurd (omega (arith, all.0))

pub returns-clause-cancel_before_its_message : goal.returns-clause-cancel_before_its_message
unfolding last_sent
returns-clause-cancel_before_its_message c = λ all. absurd (omega (arith, all.1.1.0.1))

pub returns-clause-numbers_from_0 : goal.returns-clause-numbers_from_0
unfolding lease_records last_decision sent_in_chain chain sequence_number
returns-clause-numbers_from_0 c = (_, _, refl, refl, (_, _, refl, refl, refl))

pub returns-clause-no_message_is_left_out : goal.returns-clause-no_message_is_left_out
returns-clause-no_message_is_left_out c = λ all. absurd (cc all.2)
