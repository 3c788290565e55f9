-- A slave node as a function: what each event makes of its record, and what it sends. Where each judge has a rule there is
-- one step, so a record and what the node was handed decide all that it does.
use Rattle.std.specs.Prelude.{ℕ, List, [], map, Option, Result, Ok, Err}
use Rattle.ptu_messages.specs.declared.header.PortIdentity.{PortIdentity}
use Rattle.ptu_messages.specs.declared.message.Message.{Message}
use Rattle.ptu_outside.specs.Departure.{Departure}
use Rattle.ptu_record.specs.{declared.rule.Rule.{Rule}, Record.{Record, event_moment}}
use Rattle.ptu_record.specs.{Selection.{selected_master}, Step.{SlaveEvent, SlaveSetup, slave_step}}
use Rattle.ptu_profile.specs.declared.slave.{Master.{Master}, SlaveConfig.{SlaveConfig}}
use Rattle.ptu_slave_messages.specs.declared.heard.{Heard.{Heard}, Heard.TheVariants.{Ignored}}
use Rattle.ptu_slave_messages.specs.declared.reason.SlaveReason.{SlaveReason}
use Rattle.ptu_profile.specs.Slave.{priorities, timeouts}
use Rattle.ptu_slave_messages.specs.Heard.{event_of, heard_of, replies_to, reply_by}
use Rattle.ptu_slave_messages.specs.{Reception.{reception}, Sending.{sending_departure}}
use Rattle.ptu_profile.specs.Target.{all_ones}

-- what a slave is opened with: the rule of each master's first judge, where it has one
pub record Node : Type 0 where
  pub config : SlaveConfig
  pub masters : List Master
  pub openings : List (Option Rule)

-- what is entered in the record, and the datagrams that are sent
pub record Deed : Type 0 where
  pub entries : Record
  pub datagrams : List Departure

abbrev pub node_setup : Node → SlaveSetup
node_setup node = record { wants = node.config.wants; openings = node.openings }

-- the datagrams of these sendings, to this target
abbrev pub datagrams_of : Node → PortIdentity → SlaveEvent → Record → ℕ → List Departure
datagrams_of node target e L t = map (sending_departure node.config node.masters target) (slave_step (node_setup node) L t e).sendings

-- an event that is handed t, after this record: a tick, the stop, the operator's word or another judge
abbrev pub deed : Node → Record → ℕ → SlaveEvent → Deed
deed node L t e = record {
  entries = (slave_step (node_setup node) L t e).entries;
  datagrams = datagrams_of node all_ones e L t;
}

-- a message of the master at a place
abbrev pub message_deed : Node → Record → ℕ → ℕ × Message → Deed
message_deed node L t (m, message) = record {
  entries = (slave_step (node_setup node) L t (event_of m message)).entries;
  datagrams = datagrams_of node message.header.source (event_of m message) L t;
}

abbrev pub reception_deed : Node → Record → ℕ → Result (ℕ × Message) SlaveReason → Deed
reception_deed node L t (Err reason) = record { entries = []; datagrams = [] }
reception_deed node L t (Ok taken) = message_deed node L t taken

-- a datagram from this IPv4 address: an ignored one is no event
abbrev pub datagram_deed : Node → Record → ℕ → ℕ → List ℕ → Deed
datagram_deed node L t ip octets = reception_deed node L t (reception node.config node.masters ip octets)

abbrev pub reception_heard : Node → Record → ℕ → Result (ℕ × Message) SlaveReason → Heard
reception_heard node L t (Err reason) = Ignored reason
reception_heard node L t (Ok (m, message)) = heard_of node.config.wants (event_moment L t) (reply_by (replies_to m message)) (m, message)

-- what its caller is told of the datagram, where the port sends every reply
abbrev pub datagram_heard : Node → Record → ℕ → ℕ → List ℕ → Heard
datagram_heard node L t ip octets = reception_heard node L t (reception node.config node.masters ip octets)

-- the place of the master that it selects at t, or at the moment of the record where that is later
abbrev pub node_selection : Node → Record → ℕ → Option ℕ
node_selection node L t = selected_master (timeouts node.config) (priorities node.masters) L (event_moment L t)
