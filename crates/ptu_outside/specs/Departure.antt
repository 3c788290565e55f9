-- A datagram that was handed to a port.
use Rattle.std.specs.Prelude.{ℕ, List}
use Rattle.ptu_outside.specs.declared.channel.Channel.{Channel}

-- to which IPv4 address, on which channel, and its octets
pub record Departure : Type 0 where
  pub ip : ℕ
  pub channel : Channel
  pub bytes : List ℕ
