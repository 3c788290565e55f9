-- What a grandmaster is set up with, its limits (the project's own choice), and the headers of its messages.
use Rattle.std.specs.Prelude.{ℕ, ℤ}
use Rattle.ptu_messages.specs.declared.header.Header.{Header}
use Rattle.ptu_profile.specs.{declared.grandmaster.GmConfig.{GmConfig}, Headers.{unicast_header}}
use Rattle.ptu_units.specs.Limits.{IsDomain, IsDuration, IsEpoch}

-- each value is within its limits, as the types of the fields keep it
pub record IsWithinLimits (config : GmConfig) : Type 0 where
  pub domain : IsDomain config.domain
  pub max_duration : IsDuration config.max_duration
  pub epoch : IsEpoch config.epoch

-- the header of a message of this type
abbrev pub header_of : GmConfig → ℕ → ℤ → ℕ → Header
header_of config message_type correction sequence =
    unicast_header config.identity config.domain message_type correction sequence
