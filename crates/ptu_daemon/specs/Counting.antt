-- How many datagrams answered a datagram that was taken.
use Rattle.std.specs.Prelude.{ℕ}
use Rattle.ptu_shard.specs.Answered as delays
use Rattle.ptu_outside.specs.Replies.{reply_failed, reply_sent}
use Rattle.ptu_grandmaster.specs.declared.outcome.Taken.{Taken}
use Rattle.ptu_grandmaster.specs.declared.outcome.Taken.TheVariants.{Ignored, Delay, Asked}

-- so many were sent
abbrev pub sent_for : Taken → ℕ
sent_for (Ignored reason) = 0
sent_for (Delay answered) = delays.sent_by answered
sent_for (Asked outcomes reply) = reply_sent reply

-- the sends of so many failed
abbrev pub failed_for : Taken → ℕ
failed_for (Ignored reason) = 0
failed_for (Delay answered) = delays.failed_by answered
failed_for (Asked outcomes reply) = reply_failed reply
