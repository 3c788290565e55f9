use Rattle.std.proofs.Common.{refl}
use Rattle.ptu_history.specs.{Core.{book_step_moment}, Counts.{counts}, History.{capacity_in_force}}
use Rattle.ptu_history.specs.{Live.{live_grants, standing}, Moments.{book_moment, table_moment}}
use Rattle.ptu_grandmaster.proofs.examples.statuses.Goals as goal

pub returns : goal.returns
unfolding book_step_moment counts capacity_in_force live_grants standing book_moment table_moment
returns _ = record {
  at_the_last_decision = record {
    moment = refl;
    capacity = refl;
    held = refl;
    announces = refl;
    syncs = refl;
    delay_resps = refl;
    granted = refl;
    refused = refl;
  };
  before_the_end = record {
    moment = refl;
    capacity = refl;
    held = refl;
    announces = refl;
    syncs = refl;
    delay_resps = refl;
    granted = refl;
    refused = refl;
  };
  at_the_end = record {
    moment = refl;
    capacity = refl;
    held = refl;
    announces = refl;
    syncs = refl;
    delay_resps = refl;
    granted = refl;
    refused = refl;
  };
}
