use Rattle.ptu_world.proofs.Headline.{decides_by_room, numbers_datagrams, pays_periods, records_deliveries, records_events, says_so, selects_best, sends_in_time, serves_each_client, signals_answers, within_budget, within_capacity}
use Rattle.ptu_world.proofs.promises.headline.Goals as goal

pub returns : goal.returns
returns _ = search (within_capacity, decides_by_room, pays_periods, records_events, signals_answers, within_budget, serves_each_client, sends_in_time, selects_best, records_deliveries, says_so, numbers_datagrams)
