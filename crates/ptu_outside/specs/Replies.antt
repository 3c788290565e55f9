-- How many datagrams a reply came to.
use Rattle.std.specs.Prelude.{ℕ}
use Rattle.ptu_outside.specs.declared.reply.Reply.{Reply}
use Rattle.ptu_outside.specs.declared.reply.Reply.TheVariants.{Sent, Failed, Nothing}

-- how many were sent, and how many failed to be sent
abbrev pub reply_sent : Reply → ℕ
reply_sent Sent = 1
reply_sent Failed = 0
reply_sent Nothing = 0

abbrev pub reply_failed : Reply → ℕ
reply_failed Sent = 0
reply_failed Failed = 1
reply_failed Nothing = 0
