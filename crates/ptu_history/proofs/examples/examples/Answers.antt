use Rattle.std.proofs.Common.{refl}
use Rattle.ptu_history.specs.History.{capacity_in_force, lease_records}
use Rattle.ptu_history.specs.Moments.{book_moment, table_moment}
use Rattle.ptu_history.specs.Live.{last_decision, live, live_grants, standing}
use Rattle.ptu_history.specs.Runs.{chain, sent_in_chain, sequence_number}
use Rattle.ptu_history.specs.Lawful.{earliest, last_period, lawful}
use Rattle.ptu_history.specs.{Verdict.{others, own_rate, table_rates, verdict}, Counts.{counts}}
use Rattle.ptu_history.specs.{Turns.{due_grants}, Shedding.{shed_grants, shed_order}}
use Rattle.ptu_history.specs.Step.{delay_answer}
use Rattle.ptu_history.specs.Core.{book_step_moment, core_history, history_after, core_outcomes, outcomes_after, table_step_moment}
use Rattle.ptu_history.specs.Held.{budget, count, force, held, payments, payments_after, terms}
use Rattle.ptu_history.proofs.examples.examples.Goals as goal

pub returns : goal.returns
unfolding lease_records capacity_in_force book_moment table_moment last_decision live standing live_grants sent_in_chain chain sequence_number last_period earliest lawful others own_rate table_rates verdict counts due_grants shed_order shed_grants delay_answer table_step_moment book_step_moment history_after core_history outcomes_after core_outcomes terms held force budget payments_after payments count
returns _ = record {
  exactly_full = refl;
  one_short = refl;
  long_duration = refl;
  repeat_in_full_table = refl;
  refused_renewal_keeps_the_grant = refl;
  expired_grant_begins_again = refl;
  late_turn_sends_one = refl;
  credit_of_two_periods = refl;
  delay_req_without_a_grant = refl;
  second_cancel_ends_nothing = refl;
  early_cancel_is_taken_later = refl;
  lower_capacity_sheds_the_newest = refl;
  greatest_client_is_shed_first = refl;
  earliest_is_sent_first = refl;
  slower_renewal_counts_on = refl;
  turn_sends_no_delay_resp = refl;
  newest_is_shed_before_greatest = refl;
  cancel_of_a_grant_that_is_over = refl;
  delay_req_to_a_grant_that_is_over = refl;
  tables_look_at_their_own_moments = refl;
  ties_of_a_turn = refl;
  ties_of_a_shedding = refl;
  first_cause_outside = refl;
  budget_is_used_wholly = refl;
  turns_backwards_send_one = refl;
  each_message_pays_its_period = refl;
  held_before_the_shedding = refl;
  held_after_the_shedding = refl;
  force_before_the_change = refl;
  force_at_the_change = refl;
  rates_of_one_table = refl;
  rates_of_another_table = refl;
  own_rate_of_one_kind = refl;
  counts_of_each_sort = refl;
  budget_over_a_change = refl;
}
