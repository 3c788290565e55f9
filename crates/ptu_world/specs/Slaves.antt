-- What a slave of a script does.
use Rattle.std.specs.Prelude.{ℕ, List, [], ◌∷◌, ◌++◌, map, option_map}
use Rattle.ptu_record.specs.Step.{SlaveEvent}
use Rattle.ptu_profile.specs.declared.slave.Master.{Master}
use Rattle.ptu_slave_messages.specs.declared.heard.Heard.{Heard}
use Rattle.ptu_slave_messages.specs.declared.heard.Heard.TheVariants as heard
use Rattle.ptu_slave_messages.specs.declared.reason.SlaveReason.{SlaveReason}
use Rattle.ptu_slave_messages.specs.declared.reason.SlaveReason.TheVariants as ignored
use Rattle.ptu_slave_messages.specs.declared.signal.Signal.{Signal}
use Rattle.ptu_slave_messages.specs.declared.signal.Signal.TheVariants as signals
use Rattle.ptu_profile.specs.Slave.{address_of}
use Rattle.ptu_slave_messages.specs.Node as slave
use Rattle.ptu_report_lines.specs.declared.hearing.Hearing.TheVariants as hearings
use Rattle.ptu_report_lines.specs.declared.reason.Reason.{Reason}
use Rattle.ptu_report_lines.specs.declared.reason.Reason.TheVariants as reasons
use Rattle.ptu_report_lines.specs.declared.signal.Received.TheVariants as receipts
use Rattle.ptu_report_lines.specs.declared.statement.Statement.{Statement}
use Rattle.ptu_report_lines.specs.declared.statement.Statement.TheVariants as statements
use Rattle.ptu_world.specs.Deeds.{Slave, IsSlave, Deed}

-- ---- what is said

abbrev pub reason_of : SlaveReason → Reason
reason_of (ignored.Fault fault) = reasons.Fault fault
reason_of (ignored.UnknownType message_type) = reasons.Type message_type
reason_of (ignored.Other message_type) = reasons.Other message_type
reason_of ignored.Stranger = reasons.Stranger
reason_of (ignored.Domain domain) = reasons.Domain domain
reason_of ignored.Target = reasons.Target

abbrev pub signal_said : Signal → Statement
signal_said (signals.Grant k seconds) = statements.Received (receipts.Grant k seconds)
signal_said (signals.Denial k) = statements.Received (receipts.Denial k)
signal_said (signals.Cancel code) = statements.Received (receipts.Cancel code)
signal_said (signals.Ack code) = statements.Received (receipts.Ack code)

-- of what a slave with these masters heard
abbrev pub heard_said : List Master → Heard → List Statement
heard_said masters (heard.Ignored reason) = statements.Ignored (reason_of reason) ∷ []
heard_said masters (heard.Announce x m class) = statements.Heard (hearings.Announce (address_of masters m) class x) ∷ []
heard_said masters (heard.Sync x m number) = statements.Heard (hearings.Sync (address_of masters m) number x) ∷ []
heard_said masters (heard.FollowUp x m) = statements.Heard (hearings.FollowUp (address_of masters m) x) ∷ []
heard_said masters (heard.DelayResp x m number) = statements.Heard (hearings.DelayResp (address_of masters m) number x) ∷ []
heard_said masters (heard.Signals x m list reply) = map signal_said list

-- ---- what is done

-- the slave with these entries too
abbrev pub entered : Slave → slave.Deed → Slave
entered s deed = record s { taken = s.taken ++ deed.entries }

-- what it selects at the moment, or at its own where that is later
abbrev pub selection_said : Slave → ℕ → Statement
selection_said s t =
    statements.Selected s.ip (option_map (address_of (s.opened.masters)) (slave.node_selection s.opened s.taken t))

-- what it does at an event that is handed the moment, with what is said of the event
abbrev pub event_deed : Slave → ℕ → List Statement → slave.Deed → Deed
event_deed s t said deed =
    record {
      node = IsSlave (entered s deed);
      said = said;
      sends = deed.datagrams;
      added = selection_said (entered s deed) t ∷ [];
    }

-- an ignored datagram is no event
abbrev pub heard_deed : Slave → ℕ → slave.Deed → Heard → Deed
heard_deed s t deed (heard.Ignored reason) =
    record { node = IsSlave s; said = statements.Ignored (reason_of reason) ∷ []; sends = []; added = [] }
heard_deed s t deed h = event_deed s t (heard_said (s.opened.masters) h) deed

-- it takes a datagram that came from the address
abbrev pub datagram_deed : Slave → ℕ → ℕ → List ℕ → Deed
datagram_deed s t from octets =
    heard_deed s t (slave.datagram_deed s.opened s.taken t from octets) (slave.datagram_heard s.opened s.taken t from octets)

-- a tick, the stop, the operator's word or another judge
abbrev pub plain_deed : Slave → ℕ → SlaveEvent → Deed
plain_deed s t e = event_deed s t [] (slave.deed s.opened s.taken t e)
