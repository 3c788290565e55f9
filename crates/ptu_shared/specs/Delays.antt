-- What answers a Delay_Req where the table stands behind a lock.
use Rattle.std.specs.Prelude.{◌<◌}
use Rattle.ptu_shard.specs.declared.answered.Answered.{Answered}
use Rattle.ptu_shard.specs.declared.answered.Answered.TheVariants.{Sent, Failed, NoGrant, TooSoon}

-- where a Delay_Resp is lawful later only, that is after the moment of the answer
abbrev pub IsLaterIfTooSoon : Answered → Type 0
IsLaterIfTooSoon (Sent at) = Unit {0}
IsLaterIfTooSoon (Failed at) = Unit {0}
IsLaterIfTooSoon (NoGrant at) = Unit {0}
IsLaterIfTooSoon (TooSoon at earliest) = at < earliest
