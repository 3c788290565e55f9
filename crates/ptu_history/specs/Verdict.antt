-- The answer to a REQUEST_UNICAST_TRANSMISSION (IEEE 1588-2019 clause 16.1.4.1; the limits are the
-- project's own choice).
use Rattle.std.specs.Prelude.{ℕ, ◌+◌, ◌*◌, min, Bool, ◌&&◌, List, Option, Some, None, Result, Ok, Err, ℤ, pos, nat_lt, nat_le, int_le, ◌==◌, if◌then◌else◌}
use Rattle.std.specs.List.{filter, sum_by}
use Rattle.ptu_units.specs.{declared.kind.Kind.{Kind}, Kind.{kind_of}, Log.{least_log, rate_of}}
use Rattle.ptu_units.specs.{declared.client.Client.{Client}, Client.{table_of}, Time.{second}}
use Rattle.ptu_history.specs.History.{Record, Granted, capacity_in_force}
use Rattle.ptu_history.specs.Live.{Grant, last_decision, live_grants, without}

-- what a grandmaster is opened with: the longest duration that it grants, in seconds, and its
-- capacity, in sixteenths of a message per second
pub record Config : Type 0 where
  pub max_duration : ℕ
  pub capacity : ℕ

-- what a REQUEST asks for: a messageType, the logarithm of an interval, and a duration in seconds
pub record Ask : Type 0 where
  pub code : ℕ
  pub log : ℤ
  pub seconds : ℕ

-- why an ask is outside the profile
pub data OutsideCause : Type 0 where
  OutsideCode : OutsideCause
  OutsideLog : OutsideCause
  OutsideDuration : OutsideCause

-- the decision on an ask
pub data Verdict : Type 0 where
  -- granted for so many seconds, until that moment
  GrantedFor : (kind : Kind) (log : ℤ) (seconds until : ℕ) → Verdict
  -- the rates of the other live grants and its own are above the capacity in force
  ShortOf : (kind : Kind) (log : ℤ) (others rate capacity : ℕ) → Verdict
  Outside : (cause : OutsideCause) → Verdict

-- the logarithm is in the range of the kind
abbrev pub is_log_of : Kind → ℤ → Bool
is_log_of k l = int_le (least_log k) l && int_le l (pos 4)

-- the profile of an ask whose code is of this kind, or of none
abbrev pub profile_of : Option Kind → Ask → Result Kind OutsideCause
profile_of None ask = Err OutsideCode
profile_of (Some k) ask =
    if is_log_of k ask.log
    then (if nat_lt ask.seconds 60 then Err OutsideDuration else Ok k)
    else Err OutsideLog

-- the kind that an ask within the profile is for, or the first cause why it is outside: its code is
-- no kind, its logarithm is outside the kind's range, its duration is below 60 s
abbrev pub profile : Ask → Result Kind OutsideCause
profile ask = profile_of (kind_of ask.code) ask

-- the sum of the rates of these grants, in sixteenths of a message per second
abbrev pub rate_sum : List Grant → ℕ
rate_sum grants = sum_by (λ g. rate_of g.log) grants

-- the sum of the rates of the grants that are live at the moment, but for that of the client and
-- kind
unfoldable pub others : List Record → ℕ → Client → Kind → ℕ
others history n c k = rate_sum (without c k (live_grants history n))

-- the rate of a decision that is a grant which is live at the moment, or 0
abbrev pub live_rate : ℕ → Option Record → ℕ
live_rate x (Some (Granted n c k l u)) = if nat_lt x u then rate_of l else 0
live_rate x _ = 0

-- the rate of the grant of the client and kind that is live at the moment, or 0 where none is
unfoldable pub own_rate : List Record → ℕ → Client → Kind → ℕ
own_rate history n c k = live_rate n (last_decision history c k)

-- the sum of the rates of the grants of the table's clients that are live at the moment
unfoldable pub table_rates : List Record → ℕ → ℕ → ℕ
table_rates history n j = rate_sum (filter (λ g. table_of g.client == j) (live_grants history n))

-- the duration that is granted, in seconds
abbrev pub granted_seconds : Config → Ask → ℕ
granted_seconds config ask = min ask.seconds config.max_duration

-- the verdict on an ask of a kind that is within the profile
abbrev pub verdict_within : Config → List Record → ℕ → Client → Kind → Ask → Verdict
verdict_within config history n c k ask =
    if nat_le (others history n c k + rate_of ask.log) (capacity_in_force config.capacity history)
    then GrantedFor k ask.log (granted_seconds config ask)
    (n + granted_seconds config ask * second)
    else ShortOf k ask.log (others history n c k) (rate_of ask.log)
    (capacity_in_force config.capacity history)

-- the verdict on an ask of this profile
abbrev pub verdict_of : Result Kind OutsideCause → Config → List Record → ℕ → Client → Ask → Verdict
verdict_of (Err cause) config history n c ask = Outside cause
verdict_of (Ok k) config history n c ask = verdict_within config history n c k ask

-- the verdict on an ask of the client at the moment
unfoldable pub verdict : Config → List Record → ℕ → Client → Ask → Verdict
verdict config history n c ask = verdict_of (profile ask) config history n c ask
