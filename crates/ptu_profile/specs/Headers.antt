-- The headers of unicast messages (IEEE 1588-2019 clause 13.3).
use Rattle.std.specs.Prelude.{ℕ, ℤ}
use Rattle.ptu_messages.specs.declared.header.{Header.{Header}, PortIdentity.{PortIdentity}}

-- the header of a message of this type from this port in this domain: the unicastFlag alone of the flags
abbrev pub unicast_header : PortIdentity → ℕ → ℕ → ℤ → ℕ → Header
unicast_header source domain message_type correction sequence =
    record {
      message_type = message_type;
      domain = domain;
      flags = 0x0400;
      correction = correction;
      source = source;
      sequence = sequence;
    }
