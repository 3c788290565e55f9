use Rattle.ptu_history.specs.Core.{core_history}
use Rattle.ptu_laws.proofs.{Stands.{sent-due, sent-live, sound-core}, Timely.{sent-inside}}
use Rattle.ptu_laws.proofs.laws.messages_inside_grants.Goals as goal

pub returns : goal.returns
returns _ = record {
  live = λ config events before after x c k is. sent-live config.capacity (core_history config events) before after x c k (sound-core config events) is;
  not_early = λ config events before after x c k is. sent-due config.capacity (core_history config events) before after x c k (sound-core config events) is;
  inside = sent-inside;
}
