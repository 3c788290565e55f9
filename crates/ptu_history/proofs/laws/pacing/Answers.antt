use Rattle.ptu_units.specs.declared.kind.Kind.TheVariants.{Announce, Sync}
use Rattle.ptu_history.proofs.Renewals.{earliest_delay, earliest_sent, last_period-granted, live_sent, sequence_sent}
use Rattle.ptu_history.proofs.laws.pacing.Goals as goal

pub returns : goal.returns
returns _ = record {
  announce = λ history t c. earliest_sent history t c Announce;
  sync = λ history t c. earliest_sent history t c Sync;
  delay_resp = earliest_delay;
  sequence = sequence_sent;
  period = last_period-granted;
  live = λ history t x c k. live_sent history t c k x;
}
