use Rattle.ptu_laws.proofs.Locality.{core-delay-same, core-turn-same, delay-same, turn-same}
use Rattle.ptu_laws.proofs.laws.tables_apart.Goals as goal

pub returns : goal.returns
returns _ = record {
  turn = turn-same;
  delay_req = delay-same;
  core_turn = core-turn-same;
  core_delay_req = core-delay-same;
}
