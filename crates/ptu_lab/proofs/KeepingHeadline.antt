-- Every script keeps to the whole headline.
use Rattle.std.proofs.Common.{ℕ, List}
use Rattle.ptu_lab.specs.Headline.{KeepsHeadline}
use Rattle.ptu_world.specs.World.{Stock}
use Rattle.ptu_world.proofs.Headline.{decides_by_room, numbers_datagrams, pays_periods, records_deliveries, records_events, says_so, selects_best, sends_in_time, serves_each_client, signals_answers, within_budget, within_capacity}

pub keeps_headline : (stock : Stock) (script : List ℕ) → KeepsHeadline stock script
keeps_headline stock script = record {
  within_capacity = within_capacity stock script;
  granted_by_room = decides_by_room stock script;
  own_periods = pays_periods stock script;
  recorded = records_events stock script;
  signalled = signals_answers stock script;
  within_budget = within_budget stock script;
  each_client = serves_each_client stock script;
  in_time = sends_in_time stock script;
  best_master = selects_best stock script;
  delivered = records_deliveries stock script;
  says_so = says_so stock script;
  datagrams = numbers_datagrams stock script;
}
