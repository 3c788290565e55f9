-- What is asked of what a slave heard.
use Rattle.std.specs.Prelude.{ℕ, ◌<◌, Bool, true, false}
use Rattle.ptu_slave_messages.specs.declared.heard.Heard.{Heard}
use Rattle.ptu_slave_messages.specs.declared.heard.Heard.TheVariants.{Ignored, Announce, Sync}
use Rattle.ptu_slave_messages.specs.declared.heard.Heard.TheVariants.{FollowUp, DelayResp, Signals}

-- the master of whom it is stands in a list of this length
abbrev pub IsOfOne : ℕ → Heard → Type 0
IsOfOne masters (Ignored reason) = Unit {0}
IsOfOne masters (Announce x m class) = m < masters
IsOfOne masters (Sync x m number) = m < masters
IsOfOne masters (FollowUp x m) = m < masters
IsOfOne masters (DelayResp x m number) = m < masters
IsOfOne masters (Signals x m list reply) = m < masters

-- the datagram was no event
abbrev pub is_ignored : Heard → Bool
is_ignored (Ignored reason) = true
is_ignored heard = false
