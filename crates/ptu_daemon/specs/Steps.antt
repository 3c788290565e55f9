-- What a datagram is among the messages of one step and of two (IEEE 1588-2019 clause 9.5.9).
use Rattle.std.specs.Prelude.{ℕ, ◌/◌, ◌%◌, ◌==◌, Bool, if◌then◌else◌, List, length, slice_index, Result, Ok, Err}
use Rattle.ptu_outside.specs.declared.channel.Channel.{Channel}
use Rattle.ptu_outside.specs.declared.channel.Channel.TheVariants.{Event, General}
use Rattle.ptu_messages.specs.declared.{header.Header.{Header}, header_fault.HeaderFault.{HeaderFault}}
use Rattle.ptu_messages.specs.HeaderReading.{header_in}
use Rattle.ptu_daemon.specs.declared.step.Step.{Step}
use Rattle.ptu_daemon.specs.declared.step.Step.TheVariants.{OneStepSync, TwoStepSync, FollowUp, Other}

-- twoStepFlag, bit 1 of the first octet of the flagField (IEEE 1588-2019 table 37), is set
abbrev pub has_two_steps : List ℕ → Bool
has_two_steps octets = slice_index octets 6 / 2 % 2 == 1

-- by the channel and the messageType
abbrev pub step_by : Channel → List ℕ → Header → Step
step_by Event octets h = if h.message_type == 0 then (if has_two_steps octets then TwoStepSync else OneStepSync) else Other
step_by General octets h = if h.message_type == 8 then FollowUp else Other

-- by what the header reads as, with its messageLength
abbrev pub step_read : Channel → List ℕ → Result (Header × ℕ) HeaderFault → Step
step_read channel octets (Ok read) = if read.1 == 44 then step_by channel octets read.0 else Other
step_read channel octets (Err fault) = Other

unfoldable pub step_of : Channel → List ℕ → Step
step_of channel octets = if length octets == 44 then step_read channel octets (header_in octets) else Other
