use Rattle.ptu_history.specs.Core.{core_history}
use Rattle.ptu_laws.proofs.{Served.{periods-sound, rate-sound}, Stands.{sound-core}}
use Rattle.ptu_laws.proofs.laws.messages_within_held_time.Goals as goal

pub returns : goal.returns
returns _ = record {
  periods = λ config events c k x. periods-sound config.capacity (core_history config events) (sound-core config events) c k x;
  rate = λ config events c k l x. rate-sound config.capacity (core_history config events) (sound-core config events) c k l x;
}
