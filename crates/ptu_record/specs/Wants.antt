-- What a slave requests of its masters, and the timeouts that follow (IEEE 1588-2019 clause 16.1.1; the receipt timeouts are those of this project's profile).
use Rattle.std.specs.Prelude.{ℕ, ◌*◌, Bool, List, filter, Option, Some, option_map, is_some, ◌==◌, ℤ}
use Rattle.ptu_units.specs.declared.kind.{Kind.{Kind}, Kind.TheVariants.{Announce, Sync, DelayResp}}
use Rattle.ptu_units.specs.{Kind.{code_of, kinds}, Log.{period_of}, Time.{second}}
use Rattle.ptu_record.specs.{declared.wants.Wants.{Wants}, SignalFails.{Timeouts}}

abbrev pub is_kind : Kind → Kind → Bool
is_kind k kind = code_of k == code_of kind

-- the logarithm that the slave requests of a kind; Delay_Resp is requested where it is there
abbrev pub wanted_log : Wants → Kind → Option ℤ
wanted_log wants Announce = Some wants.announce
wanted_log wants Sync = Some wants.sync
wanted_log wants DelayResp = wants.delay

-- the kinds that the slave requests, in the order of kinds
abbrev pub wanted_kinds : Wants → List Kind
wanted_kinds wants = filter (λ k. is_some (wanted_log wants k)) kinds

-- each timeout is so many periods of the requested logarithm, and the wait to restore so many seconds
abbrev pub timeouts_of : Wants → ℕ → ℕ → ℕ → ℕ → Timeouts
timeouts_of wants announce sync delay wait = record {
  announce = announce * period_of wants.announce;
  sync = sync * period_of wants.sync;
  delay = option_map (λ log. delay * period_of log) wants.delay;
  wait = wait * second;
}
