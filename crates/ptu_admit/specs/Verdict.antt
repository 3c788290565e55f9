-- What is answered to a REQUEST_UNICAST_TRANSMISSION (IEEE 1588-2019 clause 16.1.4.1).
use Rattle.std.specs.Prelude.{◌≡◌, ℕ, ◌+◌, ◌*◌, min, Option, Some, None, Result, Ok, Err, ℤ, nat_le, if◌then◌else◌}
use Rattle.ptu_units.specs.{declared.kind.Kind.{Kind}, Log.{rate_of}}
use Rattle.ptu_units.specs.{declared.client.Client.{Client}, Time.{second}}
use Rattle.ptu_history.specs.Verdict as history
use Rattle.ptu_history.specs.Verdict.{Config, GrantedFor, OutsideCause, OutsideCode, OutsideDuration, OutsideLog, ShortOf, profile}
use Rattle.ptu_messages.specs.declared.tlv.Ask.{Ask}
use Rattle.ptu_profile.specs.declared.grandmaster.GmConfig.{GmConfig}
use Rattle.ptu_admit.specs.declared.verdict.Outside.{Outside as Cause}
use Rattle.ptu_admit.specs.declared.verdict.Outside.TheVariants as cause
use Rattle.ptu_admit.specs.declared.verdict.Verdict.{Verdict}
use Rattle.ptu_admit.specs.declared.verdict.Verdict.TheVariants.{Granted, Short, Outside}

-- the ask of a TLV
abbrev pub ask_of : Ask → history.Ask
ask_of ask = record { code = ask.code; log = ask.log; seconds = ask.seconds }

-- the longest duration of a grandmaster, and this capacity
abbrev pub config_of : ℕ → GmConfig → Config
config_of capacity config = record { max_duration = config.max_duration; capacity = capacity }

-- why an ask is outside the profile
abbrev pub cause_of : Cause → OutsideCause
cause_of cause.Code = OutsideCode
cause_of cause.Log = OutsideLog
cause_of cause.Duration = OutsideDuration

-- the verdict that is answered
abbrev pub verdict_of : Verdict → history.Verdict
verdict_of (Granted grant) = GrantedFor grant.kind grant.log grant.seconds grant.until
verdict_of (Short shortage) = ShortOf shortage.kind shortage.log shortage.others shortage.rate shortage.capacity
verdict_of (Outside cause) = history.Outside (cause_of cause)

-- the verdict was found at this moment; an ask outside the profile is decided at none
abbrev pub IsAt : ℕ → Verdict → Type 0
IsAt n (Granted grant) = grant.at ≡ n
IsAt n (Short shortage) = shortage.at ≡ n
IsAt n (Outside cause) = Unit {0}

-- what the verdict grants is this client's
abbrev pub IsFor : Client → Verdict → Type 0
IsFor client (Granted grant) = grant.client ≡ client
IsFor client (Short shortage) = Unit {0}
IsFor client (Outside cause) = Unit {0}

-- the verdict at the moment on an ask within the profile, under a capacity in force, beside other live grants with
-- these rates
abbrev pub verdict_on : Config → ℕ → ℕ → Kind → ℤ → ℕ → history.Verdict
verdict_on config others n k l seconds =
    if nat_le (others + rate_of l) config.capacity
    then GrantedFor k l (min seconds config.max_duration) (n + min seconds config.max_duration * second)
    else ShortOf k l others (rate_of l) config.capacity

-- the verdict at the moment on an ask of this profile, by the rates of the other live grants for each kind
abbrev pub verdict_by : Result Kind OutsideCause → Config → (Kind → ℕ) → ℕ → history.Ask → history.Verdict
verdict_by (Err cause) config others n ask = history.Outside cause
verdict_by (Ok k) config others n ask = verdict_on config (others k) n k ask.log ask.seconds

-- the verdict at the moment on an ask
abbrev pub verdict_beside : Config → (Kind → ℕ) → ℕ → history.Ask → history.Verdict
verdict_beside config others n ask = verdict_by (profile ask) config others n ask

-- a verdict, but for one that the ask is short
abbrev pub unless_short : history.Verdict → Option history.Verdict
unless_short (ShortOf k l others rate capacity) = None
unless_short verdict = Some verdict

-- the fact, where the ask is outside the profile
abbrev pub OnOutside : Verdict → Type 0 → Type 0
OnOutside (Outside cause) fact = fact
OnOutside verdict fact = Unit {0}

-- the fact, where it is within
abbrev pub OnWithin : Verdict → Type 0 → Type 0
OnWithin (Outside cause) fact = Unit {0}
OnWithin verdict fact = fact
