-- Which datagrams a slave takes, and why it ignores the others. The order of the reasons is this project's own choice.
use Rattle.std.specs.Prelude.{ℕ, Bool, true, false, not, ◌&&◌, ◌||◌, ◌==◌, if◌then◌else◌, List, Option, Some, None, Result, Ok, Err}
use Rattle.ptu_messages.specs.declared.header.PortIdentity.{PortIdentity}
use Rattle.ptu_messages.specs.declared.message.Body.{Body}
use Rattle.ptu_messages.specs.declared.message.Body.TheVariants.{DelayReq, DelayResp, Signaling, Ignored}
use Rattle.ptu_messages.specs.{declared.message.Message.{Message}, Reading.{message_in}}
use Rattle.ptu_messages.specs.declared.fault.MessageFault.{MessageFault}
use Rattle.ptu_profile.specs.declared.slave.{Master.{Master}, SlaveConfig.{SlaveConfig}}
use Rattle.ptu_slave_messages.specs.declared.reason.SlaveReason.{SlaveReason}
use Rattle.ptu_slave_messages.specs.declared.reason.SlaveReason.TheVariants.{Fault, UnknownType, Other, Stranger, Domain, Target}
use Rattle.ptu_profile.specs.Slave.{place_of}
use Rattle.ptu_profile.specs.Target.{is_target}

-- the message is of a type that this project does not know
abbrev pub is_unknown : Body → Bool
is_unknown Ignored = true
is_unknown body = false

-- the one type that is known and not for a slave
abbrev pub is_delay_req : Body → Bool
is_delay_req (DelayReq stamp) = true
is_delay_req body = false

abbrev pub is_same : PortIdentity → PortIdentity → Bool
is_same a b = (a.clock == b.clock) && (a.port == b.port)

-- a Signaling is for the slave by its target, a Delay_Resp by whose Delay_Req it answers, and other messages always
abbrev pub is_for : PortIdentity → Body → Bool
is_for own (Signaling target tlvs) = is_target own target
is_for own (DelayResp stamp requester) = is_same requester own
is_for own body = true

-- of a message of the master at this place: the place, or the first reason to ignore it
abbrev pub from_master : SlaveConfig → Message → Option ℕ → Result ℕ SlaveReason
from_master config message None = Err Stranger
from_master config message (Some m) =
    if not (message.header.domain == config.domain) then Err (Domain message.header.domain)
    else if not (is_for config.identity message.body) then Err Target
    else Ok m

-- the same of a message, whoever sent it
abbrev pub sender_of : SlaveConfig → List Master → ℕ → Message → Result ℕ SlaveReason
sender_of config masters ip message =
    if is_unknown message.body then Err (UnknownType message.header.message_type)
    else if is_delay_req message.body then Err (Other message.header.message_type)
    else from_master config message (place_of masters ip)

-- each with the message
abbrev pub beside : Message → Result ℕ SlaveReason → Result (ℕ × Message) SlaveReason
beside message (Err reason) = Err reason
beside message (Ok m) = Ok (m, message)

abbrev pub of_reading : SlaveConfig → List Master → ℕ → Result Message MessageFault → Result (ℕ × Message) SlaveReason
of_reading config masters ip (Err fault) = Err (Fault fault)
of_reading config masters ip (Ok message) = beside message (sender_of config masters ip message)

-- what a datagram from this IPv4 address is to the slave: a message of the master at a place, or the first reason to ignore it
abbrev pub reception : SlaveConfig → List Master → ℕ → List ℕ → Result (ℕ × Message) SlaveReason
reception config masters ip octets = of_reading config masters ip (message_in octets)
