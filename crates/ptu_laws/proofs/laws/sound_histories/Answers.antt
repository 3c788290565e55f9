use Rattle.std.proofs.Common.{[]}
use Rattle.ptu_laws.proofs.{Budget.{count-sound}, Capacity.{held-sound}}
use Rattle.ptu_laws.proofs.Payments.{message-paid, payments-apart, payments-paid}
use Rattle.ptu_laws.proofs.Served.{periods-sound, rate-sound}
use Rattle.ptu_laws.proofs.Stands.{follow-stand, sent-due, sent-live, sound-change, sound-core, sound-from, sound-one_more, stand-from}
use Rattle.ptu_laws.proofs.laws.sound_histories.Goals as goal

pub returns : goal.returns
returns _ = record {
  core = sound-core;
  none = λ opening. sound-from opening [] tt;
  one_more = sound-one_more;
  change = sound-change;
  within_capacity = λ opening history x sound. held-sound opening history sound x;
  live = λ opening history before after x c k sound is. (sent-live opening history before after x c k sound is, sent-due opening history before after x c k sound is);
  paid = λ opening history before after x c k sound is. message-paid history (follow-stand opening [] history (stand-from opening history sound)) before after x c k is;
  all_paid = λ opening history sound. payments-paid history (follow-stand opening [] history (stand-from opening history sound));
  disjoint = λ opening history sound. payments-apart history (follow-stand opening [] history (stand-from opening history sound));
  within_held_time = λ opening history c k x sound. periods-sound opening history sound c k x;
  within_held_time_at = λ opening history c k l x sound. rate-sound opening history sound c k l x;
  within_budget = λ opening history x sound. count-sound opening history sound x;
}
