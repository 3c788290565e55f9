-- The headline, whole: what every script keeps to, and that its report says so.
use Rattle.std.specs.Prelude.{ℕ, List}
use Rattle.ptu_world.specs.Headline.{DecidesByRoom, NumbersDatagrams, PaysPeriods, RecordsDeliveries, RecordsEvents, SaysSo, SelectsBest, SendsInTime, ServesEachClient, SignalsAnswers, WithinBudget, WithinCapacity}
use Rattle.ptu_world.specs.World.{Stock}

-- what every script keeps to, with so many judges of each rule
pub record KeepsHeadline (stock : Stock) (script : List ℕ) : Type 0 where
  -- granted rates never sum above capacity
  pub within_capacity : WithinCapacity stock script
  -- a request is granted exactly where its rate fits beside the other live grants, and else answered with the duration zero
  pub granted_by_room : DecidesByRoom stock script
  -- every message takes a period of its own inside a live grant
  pub own_periods : PaysPeriods stock script
  -- which stands uncancelled: a history has just what was handed over, CANCELs and Delay_Reqs, turns, changes of capacity
  pub recorded : RecordsEvents stock script
  -- a grandmaster signals the one reply to each Signaling with items, and the CANCEL of each grant that is shed, and nothing else
  pub signalled : SignalsAnswers stock script
  -- up to every moment all timing messages are within the capacity summed over it
  pub within_budget : WithinBudget stock script
  -- no client gets more messages of a kind than whole periods in which it held a grant
  pub each_client : ServesEachClient stock script
  -- and messages come in each period and the time between turns
  pub in_time : SendsInTime stock script
  -- each slave selects its best eligible master
  pub best_master : SelectsBest stock script
  -- by a record that has just what was delivered to it, and the answers of its judges
  pub delivered : RecordsDeliveries stock script
  -- the report says so, line by line, and nothing else
  pub says_so : SaysSo stock script
  -- and datagrams are numbered in the order in which they are sent, and delivered as they were
  pub datagrams : NumbersDatagrams stock script
