use Rattle.ptu_history.specs.{Events.{Request}, Core.{core_moment, core_history}}
use Rattle.ptu_laws.proofs.Verdicts.{granted_where_room, outcome-at, short_where_no_room}
use Rattle.ptu_laws.proofs.laws.granted_where_room.Goals as goal

pub returns : goal.returns
returns _ = record {
  granted = λ config events t c k ask within. granted_where_room config (core_history config events) (core_moment (core_history config events) t (Request c ask)) c k ask within;
  short = λ config events t c k ask within. short_where_no_room config (core_history config events) (core_moment (core_history config events) t (Request c ask)) c k ask within;
  outcome = outcome-at;
}
