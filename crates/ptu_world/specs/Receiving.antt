-- What each event makes of a slave: the entries that its record gets, and what the slave sends (IEEE 1588-2019 clauses 13 and
-- 16.1; that ticks, the stop, flags and judges are events is the project's own choice).
use Rattle.std.specs.Prelude.{◌≡◌, ℕ, Bool, true, false, ⊤, ◌==◌, if◌then◌else◌, filter, filter_map, [], ◌∷◌, ◌++◌, map, Option, Some, None, option_map, Ok}
use Rattle.ptu_messages.specs.declared.header.PortIdentity.{PortIdentity}
use Rattle.ptu_messages.specs.declared.tlv.Tlv.{Tlv}
use Rattle.ptu_messages.specs.declared.tlv.Tlv.TheVariants as tlvs
use Rattle.ptu_messages.specs.declared.message.Body.TheVariants as body
use Rattle.ptu_messages.specs.declared.message.Message.{Message}
use Rattle.ptu_record.specs.declared.wants.Wants.{Wants}
use Rattle.ptu_record.specs.Record.{Entry, Record, event_moment, Announce, Sync, Resp, Granted, Denied, Cancelled, Judged}
use Rattle.ptu_record.specs.Judges.{ruled_assessment}
use Rattle.ptu_record.specs.Step.{SlaveEvent, SlaveSetup, TellFlag, ReplaceJudge, Tick, Stop, judged_masters, judged_record, master_count, slave_step, wanted_kind}
use Rattle.ptu_slave_messages.specs.Node.{datagrams_of, node_setup}
use Rattle.ptu_script.specs.declared.command.Command.{Command}
use Rattle.ptu_world.specs.Deeds.{Slave, IsSlave}
use Rattle.ptu_world.specs.World.{World, Done, node_at, sent_from, step}

-- a command is taken, and makes the slave at an address go on with an event that is handed a moment: its record gets the entries
-- of the event, and it sends just what the event makes it send, to this target
pub record EntersEvent (w : World) (command : Command) (ip : ℕ) (s : Slave) (t : ℕ) (e : SlaveEvent) (target : PortIdentity) : Type 0 where
  pub done : Done
  pub step : step w command ≡ Ok done
  pub node : node_at done.world.nodes ip
      ≡ Some (IsSlave (record s { taken = s.taken ++ (slave_step (node_setup s.opened) s.taken t e).entries }))
  pub sent : done.world.sent ≡ w.sent ++ map (sent_from ip) (datagrams_of s.opened target e s.taken t)

-- a command is taken, and leaves the slave at an address as it is, and sends nothing
pub record Ignores (w : World) (command : Command) (ip : ℕ) (s : Slave) : Type 0 where
  pub done : Done
  pub step : step w command ≡ Ok done
  pub node : node_at done.world.nodes ip ≡ Some (IsSlave s)
  pub sent : done.world.sent ≡ w.sent

-- an entry says that something was accepted
abbrev pub is_received : Entry → Bool
is_received (Announce at master class) = true
is_received (Sync at master number) = true
is_received (Resp at master number) = true
is_received (Granted at master kind seconds) = true
is_received (Denied at master kind) = true
is_received (Cancelled at master kind) = true
is_received entry = false

-- an entry says what a judge found
abbrev pub is_judged : Entry → Bool
is_judged (Judged at master unusable) = true
is_judged entry = false

-- what a TLV of a Signaling of the master enters: a GRANT, a denial or a CANCEL of a kind that the slave requests
abbrev pub received_in : Wants → ℕ → ℕ → Tlv → Option Entry
received_in wants x m (tlvs.Grant ask invited) =
    option_map (λ k. if ask.seconds == 0 then Denied x m k else Granted x m k ask.seconds) (wanted_kind wants ask.code)
received_in wants x m (tlvs.Cancel code) = option_map (Cancelled x m) (wanted_kind wants code)
received_in wants x m tlv = None

-- what a message of the master at a place, accepted at the moment, says to a slave that requests this
abbrev pub received_by : Wants → ℕ → ℕ → Message → Record
received_by wants x m message = elim message.body as (λ _. Record) [
  | body.Announce announce ↦ Announce x m announce.class ∷ []
  | body.Sync stamp ↦ Sync x m message.header.sequence ∷ []
  | body.DelayResp stamp requester ↦ Resp x m message.header.sequence ∷ []
  | body.Signaling target list ↦ filter_map (received_in wants x m) list
  | _ ↦ []
]

-- an event that is no message
abbrev pub IsOwn : SlaveEvent → Type 0
IsOwn (TellFlag m unusable) = ⊤
IsOwn (ReplaceJudge m rule) = ⊤
IsOwn Tick = ⊤
IsOwn Stop = ⊤
IsOwn e = ⊥

-- the entries of judges at an event are what each judge that is asked finds by its rule, by the record with what the event says
abbrev pub AreJudged : SlaveSetup → Record → ℕ → SlaveEvent → Type 0
AreJudged setup L t e =
    let x = event_moment L t in
    let asked = judged_masters (master_count setup) e in
    filter is_judged (slave_step setup L t e).entries
    ≡ map (λ m. Judged x m (ruled_assessment setup.openings (judged_record setup L x e) m)) asked
